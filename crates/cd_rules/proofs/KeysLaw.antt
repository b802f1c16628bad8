-- The laws of comparing keys.
use Rattle.std.proofs.Common.{◌≡◌, true, ◌&&◌, refl, eqb}
use Rattle.std.specs.Str.{bytes_eq}
use Rattle.std.proofs.lemmas.Bool.{and_parts, and_from, eqb-true, eq-eqb}
use Rattle.std.proofs.lemmas.Slice.Eq.{bytes_eq-Decides}
use Rattle.cd_types.specs.declared.key.Key.{Key}
use Rattle.cd_rules.specs.Keys.{same_key}

-- a key is the same as itself
pub same_key-refl : (a : Key) → same_key a a ≡ true
unfolding same_key
same_key-refl a =
    and_from _ _ (and_from _ _ (and_from _ _ ((bytes_eq-Decides a.pnode a.pnode).1 refl) (eq-eqb a.home a.home refl)) (eq-eqb a.number a.number refl)) (eq-eqb a.place a.place refl)

-- the same keys are equal
pub same_key-true : (a b : Key) → same_key a b ≡ true → a ≡ b
unfolding same_key
same_key-true a b e =
    let three = and_parts (bytes_eq a.pnode b.pnode && eqb a.home b.home && eqb a.number b.number) (eqb a.place b.place) e in
    let two = and_parts (bytes_eq a.pnode b.pnode && eqb a.home b.home) (eqb a.number b.number) three.0 in
    let one = and_parts (bytes_eq a.pnode b.pnode) (eqb a.home b.home) two.0 in
    let name = (bytes_eq-Decides a.pnode b.pnode).0 one.0 in
    let home = eqb-true a.home b.home one.1 in
    let number = eqb-true a.number b.number two.1 in
    let place = eqb-true a.place b.place three.1 in
    λ i. record { pnode = name i; home = home i; number = number i; place = place i }
