use Rattle.std.proofs.Common.{◌≡◌, ◌∷◌, ◌++◌, [], List, ℕ, map, refl, ap, sym, subst, ◌∙◌, arith}
use Rattle.std.proofs.lemmas.List.{map_push}
use Rattle.cd_entries.specs.declared.entry.Entry.{Entry}
use Rattle.cd_entries.specs.Entry.{entry_bytes}
use Rattle.cd_entries.proofs.EntryLaw.{entry_only}
use Rattle.cd_turn.specs.Home.{HomeState}
use Rattle.cd_turn.specs.Legal.{IsLegal}
use Rattle.cd_turn.proofs.Legality.{legal_push}
use Rattle.cd_turn.proofs.home.Home.take_body.Goals as goal

grown : (new room inside old : List Entry) (e : Entry) → new ≡ room ++ e ∷ [] → room ≡ inside → inside ≡ old → new ≡ old ++ e ∷ []
grown new room inside old e items same view = items ∙ ap (λ (l : List Entry). l ++ e ∷ []) (same ∙ view)

bodies_grown : (new old : List Entry) (e : Entry) (body : List ℕ) → new ≡ old ++ e ∷ [] → body ≡ entry_bytes e → map entry_bytes new ≡ map entry_bytes old ++ body ∷ []
bodies_grown new old e body is spelled = ap (map entry_bytes) is ∙ map_push entry_bytes old e ∙ ap (λ (b : List ℕ). map entry_bytes old ++ b ∷ []) (sym spelled)

pub returns-clause-ok : goal.returns-clause-ok
returns-clause-ok c =
    let e = c.in-Ok.entry in
    let same = ap (λ (home : HomeState). home.entries) c.self.view_is in
    let body = (entry_only c.args.body.now e (λ i. omega (arith, c.type_inv.body i)) c.in-Ok.ensures.entry).0 in
    let r = c.in_ok-reserve.ensures in
    bodies_grown c.add.new.entries.items c.args.self.now.entries e c.args.body.now (grown c.add.new.entries.items c.reserve.new.self.items c.self.inside.entries.items c.args.self.now.entries e c.add.ensures.items r.items same) body

pub returns-clause-legal : goal.returns-clause-legal
returns-clause-legal c =
    let e = c.in-Ok.entry in
    let form = (entry_only c.args.body.now e (λ i. omega (arith, c.type_inv.body i)) c.in-Ok.ensures.entry).1 in
    let w = c.in-Ok-is_next.ensures in
    let same = ap (λ (home : HomeState). home.entries) c.self.view_is in
    let r = c.in_ok-reserve.ensures in
    subst IsLegal (sym (grown c.add.new.entries.items c.reserve.new.self.items c.self.inside.entries.items c.args.self.now.entries e c.add.ensures.items r.items same)) (legal_push c.args.self.now.entries e c.requires form (w.yes c.if-not-is_next.false))
