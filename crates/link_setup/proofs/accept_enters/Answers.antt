use borrow.Author.Rules.{rules}
use mathlib.Core.Path.{◌≡◌, refl}
use borrow.Author.Tests.{not-true, not-false}
use Rattle.std.specs.Prelude.{Err}
use Rattle.parts.specs.Parts.{opened_of}
use Rattle.link_entry.proofs.Entered.{checked}
use Rattle.link_setup.proofs.Stages.{never}
use Rattle.link_setup.proofs.Accepts.{stopped_at_entry, set_up, not_first, may_accept}
use Rattle.link_setup.proofs.accept_enters.Goals as goal

pub returns-in_err-enters : goal.returns-in_err-enters
returns-in_err-enters c = λ t.
    let e : c.from_residual.result ≡ Err c.in_err-enters.field-0.0 = search rules in
    rw e (stopped_at_entry (c.in_err-enters.ensures.tested t))

pub returns-then-bytes : goal.returns-then-bytes
unfolding opened_of
returns-then-bytes c = λ t.
    let a = c.in_ok-enters.ensures.passed t in
    set_up c.args.words.now c.args.halves.now c.args.bytes.now t c.args.terms a.outbound (checked a) (a.low refl) c.if-bytes.true

pub returns-then-not-terms : goal.returns-then-not-terms
unfolding opened_of
returns-then-not-terms c = λ t.
    let a = c.in_ok-enters.ensures.passed t in
    may_accept c.args.words.now c.args.halves.now c.args.bytes.now t c.args.terms a.outbound (checked a) (a.low refl) c.if-bytes.false (λ i. never i (not-true _ c.if-not-terms.true))

pub returns-then-words-ne1 : goal.returns-then-words-ne1
unfolding opened_of
returns-then-words-ne1 c = λ t.
    let a = c.in_ok-enters.ensures.passed t in
    not_first c.args.words.now c.args.halves.now c.args.bytes.now t c.args.terms a.outbound (checked a) (a.low refl) c.if-bytes.false (not-false _ c.if-not-terms.false) c.if-words-ne1.true

pub returns : goal.returns
unfolding opened_of
returns c = λ t.
    let a = c.in_ok-enters.ensures.passed t in
    may_accept c.args.words.now c.args.halves.now c.args.bytes.now t c.args.terms a.outbound (checked a) (a.low refl) c.if-bytes.false (λ i. c.if-words-ne1.false)
