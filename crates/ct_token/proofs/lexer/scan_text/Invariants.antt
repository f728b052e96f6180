use Rattle.std.proofs.Common.{◌≡◌, ◌-◌, ◌≤◌, length, drop}
use Rattle.ct_token.specs.Lexical.{scanned, scan_of}
use Rattle.ct_token.proofs.Scanning.{with_front}
use Rattle.ct_token.proofs.lexer.scan_text.Given as goal

abbrev pub invariant-loop-at : goal.invariant-loop-at
invariant-loop-at l = record {
  within : l.at ≤ length l.text;
  so_far : with_front l.tokens.items (scanned l.is_fresh l.at 0 (drop l.at l.text)) ≡ scan_of l.text l.from;
}

abbrev pub decreases-loop-at : goal.decreases-loop-at
decreases-loop-at l = length l.text - l.at
