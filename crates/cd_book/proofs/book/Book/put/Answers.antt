use Rattle.std.proofs.Common.{◌≡◌, true, ◌&&◌, ltb, List, [], ◌∷◌, ◌++◌, reverse, sym, ap, subst, ◌∙◌, arith, vec_len, vec_capacity}
use Rattle.std.proofs.lemmas.Bool.{and_parts, ltb-true}
use Rattle.std.proofs.lemmas.List.{reverse-append}
use Rattle.cd_entries.specs.declared.entry.Entry.{Entry}
use Rattle.cd_rules.specs.Legal.{allowed}
use Rattle.cd_book.specs.Book.{BookState, AreKept}
use Rattle.cd_book.proofs.Kept.{kept_more}
use Rattle.cd_book.proofs.book.Book.put.Goals as goal

pub invariant_of-self : goal.invariant_of-self
invariant_of-self g c =
    let inside = c.self.inside in
    let read = g.T.Texts.read in
    let old = reverse inside.entries.items in
    let room = ap (λ (s : BookState). s.room) c.self.view_is ∙ c.requires.room in
    let few = ltb-true (vec_len inside.entries) 4294967295 (and_parts (ltb (vec_len inside.entries) (vec_capacity inside.entries) && ltb (vec_len inside.processes) (vec_capacity inside.processes)) (ltb (vec_len inside.entries) 4294967295) room).1 in
    let items : c.push.new.self.items ≡ inside.entries.items ++ c.args.entry ∷ [] = rw c.unwrap.ensures at c.push.ensures.items in
    let len = rw c.unwrap.ensures at c.push.ensures.len in
    let turned : reverse c.push.new.self.items ≡ c.args.entry ∷ old = ap reverse items ∙ reverse-append inside.entries.items (c.args.entry ∷ []) in
    let same : c.args.self.now.entries ≡ old = sym (ap (λ (s : BookState). s.entries) c.self.view_is) in
    let fits = subst (λ (l : List Entry). allowed read l c.args.entry ≡ true) same c.requires.allowed in (
      omega (arith, few, len),
      subst (λ (l : List Entry). AreKept read l c.add_process.new.processes.items) (sym turned)
          (kept_more read old inside.processes.items c.add_process.new.processes.items c.args.entry c.args.process c.self.invariant.1 fits c.requires.read c.add_process.ensures),
    )
