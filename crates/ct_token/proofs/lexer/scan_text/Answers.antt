use Rattle.std.proofs.Common.{arith, refl, sym, ◌∙◌}
use Rattle.ct_token.specs.Lexical.{Gap, Lexeme, scan_of}
use Rattle.ct_token.proofs.Scanning.{goes_on, after_token, is_done, is_bad}
use Rattle.ct_token.proofs.lexer.scan_text.Goals as goal

pub loop-at-init : goal.loop-at-init
unfolding scan_of
loop-at-init c = record { within = c.requires; so_far = rw c.new-tokens.ensures.items refl }

pub loop-at-preserved-in-Gap : goal.loop-at-preserved-in-Gap
loop-at-preserved-in-Gap c =
    let size = c.split_at.ensures.back_len in
    let fits = c.in-Gap.ensures.some (omega (arith, size)) in
    let here = sym c.in-Gap.ensures.piece in
    let piece = rw c.split_at.ensures.back at here in
    record {
      within = omega (arith, size, fits);
      so_far = goes_on c.loop-at.tokens.items c.loop-at.is_fresh c.loop-at.at c.args.text.now (Gap c.in-Gap.len) _ piece fits.0
          (omega (arith, size, fits)) c.loop-at.invariant.so_far;
    }

pub loop-at-preserved : goal.loop-at-preserved
loop-at-preserved c =
    let size = c.split_at.ensures.back_len in
    let fits = c.in-Lexeme.ensures.some (omega (arith, size)) in
    let here = sym c.in-Lexeme.ensures.piece in
    let piece = rw c.split_at.ensures.back at here in
    let far = goes_on c.loop-at.tokens.items c.loop-at.is_fresh c.loop-at.at c.args.text.now
    (Lexeme c.in-Lexeme.symbol c.in-Lexeme.len) _ piece fits.0 (omega (arith, size, fits)) c.loop-at.invariant.so_far in
    record {
      within = omega (arith, size, fits);
      so_far = rw (c.in_ok-push-in-Lexeme.ensures.items, c.is_line_end-is_fresh.ensures) (after_token c.loop-at.tokens.items _ _ ∙ far);
    }

pub returns-in-Bad : goal.returns-in-Bad
returns-in-Bad c =
    let here = sym c.in-Bad.ensures.piece in
    let piece = rw c.split_at.ensures.back at here in
    sym (is_bad c.loop-at.tokens.items c.loop-at.is_fresh c.loop-at.at c.args.text.now _ c.loop-at-test.true piece c.loop-at.invariant.so_far)

pub returns : goal.returns
returns c = sym (is_done c.loop-at.tokens.items c.loop-at.is_fresh c.loop-at.at c.args.text.now _ c.loop-at-test.false c.loop-at.invariant.so_far)
