use Rattle.std.proofs.Common.{◌≡◌, ◌≢◌, true, false, List, Option, Some, All, refl, ap, sym, subst, ◌∙◌, arith}
use Rattle.std.specs.Prelude.{IfSome}
use Rattle.cd_types.specs.declared.key.Key.{Key}
use Rattle.cd_entries.specs.declared.entry.Entry.{Entry}
use Rattle.cd_turn.specs.Entries.{submitted_in, latest_in, origin_of}
use Rattle.cd_turn.specs.Home.{HomeState}
use Rattle.cd_turn.proofs.Legality.{live-legal}
use Rattle.cd_turn.proofs.Submitting.{full_refuses}
use Rattle.cd_turn.proofs.home.Home.may_submit.Goals as goal

-- no entry has this origin
abbrev IsOnce : Option Key → List Entry → Type 0
IsOnce origin entries = IfSome origin (λ key. All (λ e. origin_of e ≢ Some key) entries)

pub returns-then-self-ge-MOST_LIVE-clause-only : goal.returns-then-self-ge-MOST_LIVE-clause-only
returns-then-self-ge-MOST_LIVE-clause-only c = λ is.
    let same = ap (λ (home : HomeState). submitted_in home.entries) c.self.view_is in
    absurd (full_refuses c.args.self.now.entries c.self.inside.submitted c.args.number c.args.moment c.args.origin.now c.args.card.now c.args.text.now c.requires (c.self.invariant.numbers ∙ same) c.if-self-ge-MOST_LIVE.true is)

pub returns-then-not-is_new-clause-only : goal.returns-then-not-is_new-clause-only
returns-then-not-is_new-clause-only c = λ is.
    let w = c.if-not-is_new.ensures in
    let same = c.deref-2.ensures.value ∙ ap (λ (home : HomeState). home.entries) c.self.view_is in
    w.1 (subst (IsOnce c.args.origin.now) (sym same) is.once)

pub returns-in-Ok-clause-yes : goal.returns-in-Ok-clause-yes
returns-in-Ok-clause-yes c = λ passed.
    let numbers = c.self.invariant.numbers ∙ ap (λ (home : HomeState). submitted_in home.entries) c.self.view_is in
    let moments = c.self.invariant.moments ∙ ap (λ (home : HomeState). latest_in home.entries) c.self.view_is in
    let live = live-legal c.args.self.now.entries c.requires in
    let w = c.if-not-is_new.ensures in
    let v = c.if-has_none.ensures in
    let same = c.deref.ensures.value ∙ ap (λ (home : HomeState). home.entries) c.self.view_is in
    let same_too = c.deref-2.ensures.value ∙ ap (λ (home : HomeState). home.entries) c.self.view_is in
    record {
      begun = λ none. let h : false ≡ true = v.only (same ∙ none) in cc;
      next = omega (arith, c.number.ensures.value);
      last = omega (arith, c.number.ensures.value);
      room = omega arith;
      later = omega (arith, c.seconds.ensures.value);
      once = subst (IsOnce c.args.origin.now) same_too (w.0 refl);
      short = omega arith;
      canonical = c.in-Ok.ensures.yes passed;
    }
