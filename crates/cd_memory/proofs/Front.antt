-- A send that gave nothing gave a front.
use Rattle.std.proofs.Common.{◌≡◌, ℕ, ◌-◌, List, ◌++◌, length, take, sym, ◌∙◌, ap, arith}
use Rattle.std.proofs.lemmas.List.{append-nil}
use Rattle.cd_outside.specs.Lines.{Traffic, GaveFront}

pub gave_none : (session : ℕ) (bytes : List ℕ) (before now : Traffic) → now ≡ before → GaveFront session bytes before now
gave_none session bytes before now same = record {
  front =
      let given = ap (λ (t : Traffic). t.given session) same in
      let zero : length (now.given session) - length (before.given session) ≡ 0 = omega (arith, ap length given) in
      given ∙ sym (append-nil (before.given session)) ∙ sym (ap (λ (n : ℕ). before.given session ++ take n bytes) zero);
  others = λ other apart. ap (λ (t : Traffic). t.given other) same;
  taken = ap (λ (t : Traffic). t.taken) same;
  sends = ap (λ (t : Traffic). t.sends) same;
}
