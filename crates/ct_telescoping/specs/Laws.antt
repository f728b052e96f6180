-- Laws that the structures of specs/ need, where they are long.
pub mod SumsBelow
pub mod ActionLaws
