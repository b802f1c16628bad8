use Rattle.std.proofs.Common.{◌≡◌, ℕ, List, [], ◌∷◌, ◌++◌, ap, sym, subst, ◌∙◌, append_assoc}
use Rattle.std.specs.Fmt.{decimal}
use Rattle.cd_outside.specs.Streams.{TookFront}
use Rattle.cd_cli.proofs.Fronts.{on_err, front_then}
use Rattle.cd_cli.proofs.telling.write_numbered.Goals as goal

-- the number was begun
pub returns-in_err-write-2-clause-front : goal.returns-in_err-write-2-clause-front
returns-in_err-write-2-clause-front g c = λ told.
    let text : c.as_bytes.result.now ≡ decimal c.args.number = c.as_bytes.ensures.value ∙ c.format-digits.ensures.text in
    let before = g.O.Sink.taken c.args.out.now in
    let middle = g.O.Sink.taken c.write.new.self in
    let now = g.O.Sink.taken c.write-2.new.self in
    on_err c.from_residual-in_err-write-2.result (TookFront before (c.args.name.now ++ (decimal c.args.number ++ 10 ∷ [])) now)
    (front_then before c.args.name.now (decimal c.args.number) (10 ∷ []) middle now (c.in_ok-write.ensures.taken told) (subst (λ (t : List ℕ). TookFront middle t now) text (c.in_err-write-2.ensures.front told)))

-- the line's end was begun
pub returns-in_err-write-3-clause-front : goal.returns-in_err-write-3-clause-front
returns-in_err-write-3-clause-front g c = λ told.
    let text : c.as_bytes.result.now ≡ decimal c.args.number = c.as_bytes.ensures.value ∙ c.format-digits.ensures.text in
    let before = g.O.Sink.taken c.args.out.now in
    let name = c.args.name.now in
    let digits = decimal c.args.number in
    let middle = g.O.Sink.taken c.write-2.new.self in
    let now = g.O.Sink.taken c.write-3.new.self in
    let line : List ℕ = 10 ∷ [] in
    let is : middle ≡ before ++ (name ++ digits) =
    c.in_ok-write-2.ensures.taken told ∙ ap (λ (l : List ℕ). l ++ c.as_bytes.result.now) (c.in_ok-write.ensures.taken told) ∙ ap (λ (l : List ℕ). (before ++ name) ++ l) text ∙ append_assoc before name digits in
    on_err c.from_residual-in_err-write-3.result (TookFront before (name ++ (digits ++ line)) now)
    (subst (λ (t : List ℕ). TookFront before t now) (append_assoc name digits line) (front_then before (name ++ digits) line [] middle now is (c.in_err-write-3.ensures.front told)))
