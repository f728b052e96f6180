pub mod Totals
pub mod EventsKeep
pub mod EachNumberOnce
pub mod RunsKeep
pub mod FirstHit
pub mod OneWorker
