-- What was read of a session stands where the bytes lead that were taken of it, also behind a turn.
use Rattle.std.proofs.Common.{inl, inr, ℕ, List, [], ◌∷◌, ◌++◌, sym, ap, subst, ◌∙◌}
use Rattle.cd_outside.specs.Lines.{LineCounts}
use Rattle.cd_frames.specs.Reading.{Reading}
use Rattle.cd_frames.specs.Run.{Run}
use Rattle.cd_rules.specs.Steps as steps
use Rattle.cd_protocol.specs.Rows.{row_end}
use Rattle.cd_effects.specs.Stands.{Spot}
use Rattle.cd_exchange.specs.Question.{Setting}
use Rattle.cd_exchange.specs.declared.session.Session.{Session}
use Rattle.cd_exchange.specs.Arriving.{TookOfOne}
use Rattle.cd_exchange.specs.Handling.{the_case}
use Rattle.cd_exchange.specs.Turn.{TookTurn, heard_at}
use Rattle.cd_exchange.specs.declared.ending.Ending.{Ending}
use Rattle.cd_exchange.proofs.Taken.{ended_taken, handled_taken}
use Rattle.cd_plain.specs.NodeState.{WasRead}

module _ (files_told lines_told : Type 0) (setting : Setting) (read : steps.Reading) (sid now : ℕ) (others : List Session) (ending : Ending) (counts_before counts : LineCounts) (reader_before reader : Reading) (before after : Spot) where
  pub turn_read : TookTurn files_told lines_told setting read sid now others ending counts_before counts reader_before reader before after
      → lines_told → WasRead (before.traffic.taken sid) reader_before → WasRead (after.traffic.taken sid) reader
  turn_read turn told was =
      elim turn [
        | inl took ↦ record {
          given = was.given ++ took.frame ∷ [];
          run = subst (λ (taken : ℕ → List ℕ). Run (taken sid) (was.given ++ took.frame ∷ []) reader)
              (sym (handled_taken (the_case files_told lines_told setting read sid now others took.frame) counts_before counts ending (heard_at took.heard before) after took.handled told)) (took.came.next told was.given was.run);
        }
        | inr lost ↦ elim lost.1 [
          | inl took ↦ record {
            given = was.given;
            run = subst (λ (taken : ℕ → List ℕ). Run (taken sid) was.given reader)
                (sym (ended_taken files_told lines_told setting read sid now row_end (heard_at took.heard before) after took.ended told)) (took.came.next told was.given was.run);
          }
          | inr none ↦ record {
            given = was.given;
            run = subst (λ (r : Reading). Run (after.traffic.taken sid) was.given r) (sym none.same)
                (subst (λ (taken : ℕ → List ℕ). Run (taken sid) was.given reader_before) (sym (ended_taken files_told lines_told setting read sid now row_end before after none.ended told)) was.run);
          }
        ]
      ]

  pub turn_others : TookTurn files_told lines_told setting read sid now others ending counts_before counts reader_before reader before after → lines_told → TookOfOne sid before.traffic after.traffic
  turn_others turn told =
      elim turn [
        | inl took ↦ λ other apart.
            ap (λ (taken : ℕ → List ℕ). taken other) (handled_taken (the_case files_told lines_told setting read sid now others took.frame) counts_before counts ending (heard_at took.heard before) after took.handled told)
            ∙ (took.came.heard_only told).others other apart
        | inr lost ↦ elim lost.1 [
          | inl took ↦ λ other apart.
              ap (λ (taken : ℕ → List ℕ). taken other) (ended_taken files_told lines_told setting read sid now row_end (heard_at took.heard before) after took.ended told)
              ∙ (took.came.heard_only told).others other apart
          | inr none ↦ λ other apart. ap (λ (taken : ℕ → List ℕ). taken other) (ended_taken files_told lines_told setting read sid now row_end before after none.ended told)
        ]
      ]
