use Rattle.std.proofs.Common.{◌≡◌, ℕ, ◌≤◌, ◌-◌, List, ◌++◌, length, drop, sym, ap, ◌∙◌, arith, length-append}
use Rattle.std.specs.Prelude.{replicate}
use Rattle.std.proofs.lemmas.List.{drop-replicate, length-replicate, take_at}
use Rattle.cd_types.specs.Short.{IsShort}
use Rattle.cd_types.proofs.short.Short.new.Goals as goal

-- a text in front of zeros
padded_text : (size : ℕ) (text : List ℕ) → length text ≤ size → IsShort size (length text) (text ++ drop (length text) (replicate size 0))
padded_text size text fits =
    let zeros : drop (length text) (replicate size 0) ≡ replicate {A = ℕ} (size - length text) 0 = drop-replicate {X = ℕ} (length text) size 0 in
    record {
      whole = omega (arith, length-append text (drop (length text) (replicate size 0)), ap length zeros, length-replicate {A = ℕ} (size - length text) 0);
      within = fits;
      padded = ap (λ (rest : List ℕ). text ++ rest) zeros ∙ ap (λ (front : List ℕ). front ++ replicate (size - length text) 0) (sym (take_at text (drop (length text) (replicate size 0)) (length text) (λ _. length text)));
    }

pub invariant_of-result : goal.invariant_of-result
invariant_of-result g c = rw c.copy_from_slice.ensures.after (padded_text g.row.N c.args.text.now c.requires)
