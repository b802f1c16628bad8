use Rattle.std.proofs.Common.{◌≡◌, ◌+◌, ℕ, Bool, List, cond, reverse, length, refl, sym, ap, ◌∙◌, arith}
use Rattle.std.specs.Prelude.{filter}
use Rattle.cd_rules.specs.Processes.{is_live, submitted}
use Rattle.cd_book.specs.Numbers.{upto}
use Rattle.cd_book.proofs.Counted.{count_more}
use Rattle.cd_book.proofs.process.live.Goals as goal
use Rattle.cd_book.proofs.process.live.Goals.{then-is_live, else-is_live}

pub loop-before-init : goal.loop-before-init
unfolding upto
loop-before-init c = record { is = refl; few = omega arith }

pub loop-before-preserved : goal.loop-before-preserved
loop-before-preserved c =
    let journal = reverse c.args.entries.now in
    let here : is_live journal (c.loop-before.before + 1) ≡ c.is_live.result = ap (is_live journal) (sym c.number_behind.ensures) ∙ sym c.is_live.ensures in
    let more : length (filter (is_live journal) (upto (c.loop-before.before + 1))) ≡ length (filter (is_live journal) (upto c.loop-before.before)) + cond c.is_live.result 1 0 =
    count_more (is_live journal) c.loop-before.before ∙ ap (λ (b : Bool). length (filter (is_live journal) (upto c.loop-before.before)) + cond b 1 0) here in
    elim c.if-is_live.branch [
      | then-is_live w ↦
          let one : ◌≡◌ {A = ℕ} (cond c.is_live.result 1 0) 1 = ap (λ (b : Bool). cond {A = ℕ} b 1 0) w.if-is_live.true in
          let before = c.loop-before.invariant in
          record { is = omega (arith, more, one, before.is, w.found-is); few = omega (arith, before.few, w.found-is) }
      | else-is_live w ↦
          let none : ◌≡◌ {A = ℕ} (cond c.is_live.result 1 0) 0 = ap (λ (b : Bool). cond {A = ℕ} b 1 0) w.if-is_live.false in
          let before = c.loop-before.invariant in
          record { is = omega (arith, more, none, before.is, w.found-is); few = omega (arith, before.few, w.found-is) }
    ]

pub returns : goal.returns
returns c =
    let journal = reverse c.args.entries.now in
    let all : c.loop-before.before ≡ submitted journal = omega (arith, c.submitted-before-end.ensures) in
    c.loop-before.invariant.is
    ∙ ap (λ (n : ℕ). length (filter (is_live journal) (upto n))) all
    ∙ ap (λ (l : List ℕ). length l) (sym c.requires.numbered.live_are)
