-- What a row of one session leaves as it was in the world, and what it makes of the frames on the way in that session.
use Rattle.std.proofs.Common.{◌≡◌, ℕ, Bool, true, false, cond, eqb, List, [], ◌∷◌, ◌++◌, refl, sym, ◌∙◌, ap, append_assoc}
use Rattle.std.proofs.lemmas.Bool.{cond-true, cond-false, eq-eqb}
use Rattle.std.proofs.lemmas.List.{append-nil}
use Rattle.cd_frames.specs.Message.{Message}
use Rattle.cd_protocol.specs.Node.{Node, Effect, Keep, Touch, AskSize, AskBytes, Begin, Go, did, does, sends}
use Rattle.cd_world.specs.World.{At, World, is_gone, at_session, behind_them, world_did, world_does}
use Rattle.cd_drill_world.proofs.Orderly.{orderly}

pub record Unmoved (w w2 : World) : Type 0 where
  pub up_a : w2.a.up ≡ w.a.up
  pub up_b : w2.b.up ≡ w.b.up
  pub calls_a : w2.a.calls ≡ w.a.calls
  pub calls_b : w2.b.calls ≡ w.b.calls
  pub sessions : w2.sessions ≡ w.sessions

pub does_unmoved : (x : At) (sid : ℕ) (effects : List Effect) (w : World) → Unmoved w (world_does x sid effects w)
does_unmoved x sid [] w = record { up_a = refl; up_b = refl; calls_a = refl; calls_b = refl; sessions = refl }
does_unmoved x sid (Keep e ∷ effects) w = let h = does_unmoved x sid effects (world_did x sid (Keep e) w) in record { up_a = h.up_a; up_b = h.up_b; calls_a = h.calls_a; calls_b = h.calls_b; sessions = h.sessions }
does_unmoved x sid (Touch change ∷ effects) w = let h = does_unmoved x sid effects (world_did x sid (Touch change) w) in record { up_a = h.up_a; up_b = h.up_b; calls_a = h.calls_a; calls_b = h.calls_b; sessions = h.sessions }
does_unmoved x sid (AskSize name ∷ effects) w = let h = does_unmoved x sid effects (world_did x sid (AskSize name) w) in record { up_a = h.up_a; up_b = h.up_b; calls_a = h.calls_a; calls_b = h.calls_b; sessions = h.sessions }
does_unmoved x sid (AskBytes name at len ∷ effects) w = let h = does_unmoved x sid effects (world_did x sid (AskBytes name at len) w) in record { up_a = h.up_a; up_b = h.up_b; calls_a = h.calls_a; calls_b = h.calls_b; sessions = h.sessions }
does_unmoved x sid (Begin key phase ∷ effects) w = let h = does_unmoved x sid effects (world_did x sid (Begin key phase) w) in record { up_a = h.up_a; up_b = h.up_b; calls_a = h.calls_a; calls_b = h.calls_b; sessions = h.sessions }
does_unmoved x sid (Go phase frames ∷ effects) w = let h = does_unmoved x sid effects (world_did x sid (Go phase frames) w) in record { up_a = h.up_a; up_b = h.up_b; calls_a = h.calls_a; calls_b = h.calls_b; sessions = h.sessions }

pub does_sids : (sid : ℕ) (effects : List Effect) (node : Node) → (does sid effects node).sessions.sids ≡ node.sessions.sids
does_sids sid [] node = refl
does_sids sid (Keep e ∷ effects) node = does_sids sid effects (did sid (Keep e) node)
does_sids sid (Touch change ∷ effects) node = does_sids sid effects (did sid (Touch change) node)
does_sids sid (AskSize name ∷ effects) node = does_sids sid effects node
does_sids sid (AskBytes name at len ∷ effects) node = does_sids sid effects node
does_sids sid (Begin key phase ∷ effects) node = does_sids sid effects (did sid (Begin key phase) node)
does_sids sid (Go phase frames ∷ effects) node = does_sids sid effects (did sid (Go phase frames) node)

-- The other sessions.

pub record UnmovedAt (n : ℕ) (w w2 : World) : Type 0 where
  pub way_a : w2.a.way n ≡ w.a.way n
  pub ends_a : w2.a.ends n ≡ w.a.ends n
  pub way_b : w2.b.way n ≡ w.b.way n
  pub ends_b : w2.b.ends n ≡ w.b.ends n
  pub phase : w2.a.node.sessions.phase n ≡ w.a.node.sessions.phase n

module _ (sid n : ℕ) (apart : eqb sid n ≡ false) where
  elsewhere : {T : Type 0} (value : T) (others : ℕ → T) → at_session sid value others n ≡ others n
  elsewhere value others = cond-false (eqb sid n) value (others n) apart

  gone_elsewhere : {T : Type 0} (b : Bool) (value : T) (others : ℕ → T) → (cond b (at_session sid value others) others) n ≡ others n
  gone_elsewhere true value others = elsewhere value others
  gone_elsewhere false value others = refl

  at_once : (x : At) (effect : Effect) (w : World) → UnmovedAt n w (world_did x sid effect w)
  at_once x (Keep e) w = record { way_a = refl; ends_a = refl; way_b = refl; ends_b = refl; phase = refl }
  at_once x (Touch change) w = record { way_a = refl; ends_a = refl; way_b = refl; ends_b = refl; phase = refl }
  at_once x (AskSize name) w = record { way_a = refl; ends_a = refl; way_b = refl; ends_b = refl; phase = refl }
  at_once x (AskBytes name at len) w = record { way_a = refl; ends_a = refl; way_b = refl; ends_b = refl; phase = refl }
  at_once x (Begin key phase) w = record { way_a = refl; ends_a = refl; way_b = refl; ends_b = refl; phase = elsewhere phase w.a.node.sessions.phase }
  at_once x (Go phase frames) w = record {
    way_a = gone_elsewhere (is_gone phase) [] w.a.way;
    ends_a = gone_elsewhere (is_gone phase) true w.a.ends;
    way_b = elsewhere (behind_them (w.b.ends sid) (w.b.way sid) frames) w.b.way;
    ends_b = gone_elsewhere (is_gone phase) true w.b.ends;
    phase = elsewhere phase w.a.node.sessions.phase;
  }

  at_twice : (w w2 w3 : World) → UnmovedAt n w w2 → UnmovedAt n w2 w3 → UnmovedAt n w w3
  at_twice w w2 w3 one two = record {
    way_a = two.way_a ∙ one.way_a;
    ends_a = two.ends_a ∙ one.ends_a;
    way_b = two.way_b ∙ one.way_b;
    ends_b = two.ends_b ∙ one.ends_b;
    phase = two.phase ∙ one.phase;
  }

  pub does_elsewhere : (x : At) (effects : List Effect) (w : World) → UnmovedAt n w (world_does x sid effects w)
  does_elsewhere x [] w = record { way_a = refl; ends_a = refl; way_b = refl; ends_b = refl; phase = refl }
  does_elsewhere x (effect ∷ effects) w = at_twice w (world_did x sid effect w) (world_does x sid effects (world_did x sid effect w)) (at_once x effect w) (does_elsewhere x effects (world_did x sid effect w))

-- The session itself.

here_is : {T : Type 0} (sid : ℕ) (value : T) (others : ℕ → T) → at_session sid value others sid ≡ value
here_is sid value others = cond-true (eqb sid sid) value (others sid) (eq-eqb sid sid refl)

gone_here : {T : Type 0} (sid : ℕ) (b : Bool) (value : T) (others : ℕ → T) → b ≡ true → (cond b (at_session sid value others) others) sid ≡ value
gone_here sid true value others is = here_is sid value others
gone_here sid false value others is = absurd cc

open_here : {T : Type 0} (sid : ℕ) (b : Bool) (value : T) (others : ℕ → T) → b ≡ false → (cond b (at_session sid value others) others) sid ≡ others sid
open_here sid true value others is = absurd cc
open_here sid false value others is = refl

-- where nothing more is done in it, it stays as it is
record Quiet (sid : ℕ) (effects : List Effect) (w w2 : World) : Type 0 where
  phase : w2.a.node.sessions.phase sid ≡ w.a.node.sessions.phase sid
  way_b : w2.b.way sid ≡ w.b.way sid
  ends_b : w2.b.ends sid ≡ w.b.ends sid
  sends : sends effects ≡ []

quiet_more : (sid : ℕ) (effects deeds2 : List Effect) (w v w2 : World) → v.a.node.sessions.phase sid ≡ w.a.node.sessions.phase sid → v.b.way sid ≡ w.b.way sid → v.b.ends sid ≡ w.b.ends sid → sends deeds2 ≡ sends effects → Quiet sid effects v w2 → Quiet sid deeds2 w w2
quiet_more sid effects deeds2 w v w2 phase way ends same quiet = record { phase = quiet.phase ∙ phase; way_b = quiet.way_b ∙ way; ends_b = quiet.ends_b ∙ ends; sends = same ∙ quiet.sends }

does_quiet : (x : At) (sid : ℕ) (effects : List Effect) (w : World) → orderly true effects ≡ true → Quiet sid effects w (world_does x sid effects w)
does_quiet x sid [] w is = record { phase = refl; way_b = refl; ends_b = refl; sends = refl }
does_quiet x sid (Keep e ∷ effects) w is = quiet_more sid effects _ w _ _ refl refl refl refl (does_quiet x sid effects (world_did x sid (Keep e) w) is)
does_quiet x sid (Touch change ∷ effects) w is = quiet_more sid effects _ w _ _ refl refl refl refl (does_quiet x sid effects (world_did x sid (Touch change) w) is)
does_quiet x sid (AskSize name ∷ effects) w is = quiet_more sid effects _ w _ _ refl refl refl refl (does_quiet x sid effects (world_did x sid (AskSize name) w) is)
does_quiet x sid (AskBytes name at len ∷ effects) w is = quiet_more sid effects _ w _ _ refl refl refl refl (does_quiet x sid effects (world_did x sid (AskBytes name at len) w) is)
does_quiet x sid (Begin key phase ∷ effects) w is = absurd cc
does_quiet x sid (Go phase frames ∷ effects) w is = absurd cc

-- where it isn't gone behind the row, what is on the way to this node in it is as it was
pub record WayHere (sid : ℕ) (w w2 : World) : Type 0 where
  pub way : w2.a.way sid ≡ w.a.way sid
  pub ends : w2.a.ends sid ≡ w.a.ends sid

pub does_here : (x : At) (sid : ℕ) (effects : List Effect) (w : World) → orderly false effects ≡ true → is_gone ((world_does x sid effects w).a.node.sessions.phase sid) ≡ false → WayHere sid w (world_does x sid effects w)
does_here x sid [] w is open_then = record { way = refl; ends = refl }
does_here x sid (Keep e ∷ effects) w is open_then = let h = does_here x sid effects (world_did x sid (Keep e) w) is open_then in record { way = h.way; ends = h.ends }
does_here x sid (Touch change ∷ effects) w is open_then = let h = does_here x sid effects (world_did x sid (Touch change) w) is open_then in record { way = h.way; ends = h.ends }
does_here x sid (AskSize name ∷ effects) w is open_then = let h = does_here x sid effects (world_did x sid (AskSize name) w) is open_then in record { way = h.way; ends = h.ends }
does_here x sid (AskBytes name at len ∷ effects) w is open_then = let h = does_here x sid effects (world_did x sid (AskBytes name at len) w) is open_then in record { way = h.way; ends = h.ends }
does_here x sid (Begin key phase ∷ effects) w is open_then = let h = does_here x sid effects (world_did x sid (Begin key phase) w) is open_then in record { way = h.way; ends = h.ends }
does_here x sid (Go phase frames ∷ effects) w is open_then = by_gone (is_gone phase) refl is (λ rest. does_here x sid effects (world_did x sid (Go phase frames) w) rest open_then) where
  v : World
  v = world_did x sid (Go phase frames) w

  by_gone : (b : Bool) → is_gone phase ≡ b → orderly b effects ≡ true → (orderly false effects ≡ true → WayHere sid v (world_does x sid effects v)) → WayHere sid w (world_does x sid effects v)
  by_gone true gone rest more =
      let quiet : Quiet sid effects v (world_does x sid effects v) = does_quiet x sid effects v rest in
      let last : (world_does x sid effects v).a.node.sessions.phase sid ≡ phase = quiet.phase ∙ here_is sid phase w.a.node.sessions.phase in
      let never : true ≡ false = sym gone ∙ ap is_gone (sym last) ∙ open_then in
      absurd cc
  by_gone false stays rest more =
      let h : WayHere sid v (world_does x sid effects v) = more rest in
      record { way = h.way ∙ open_here sid (is_gone phase) [] w.a.way stays; ends = h.ends ∙ open_here sid (is_gone phase) true w.a.ends stays }

-- what it sends goes behind what is on the way to the other node, which finds an end only where the session is gone
pub record WayThere (sid : ℕ) (effects : List Effect) (w w2 : World) : Type 0 where
  pub way : w2.b.way sid ≡ w.b.way sid ++ sends effects
  pub ends : w2.b.ends sid ≡ true → is_gone (w2.a.node.sessions.phase sid) ≡ true

behind_open : (ended : Bool) (before frames : List Message) → ended ≡ false → behind_them ended before frames ≡ before ++ frames
behind_open true before frames is = absurd cc
behind_open false before frames is = refl

pub does_there : (x : At) (sid : ℕ) (effects : List Effect) (w : World) → orderly false effects ≡ true → w.b.ends sid ≡ false → WayThere sid effects w (world_does x sid effects w)
does_there x sid [] w is waits = record { way = sym (append-nil (w.b.way sid)); ends = λ ended. let never : true ≡ false = sym ended ∙ waits in absurd cc }
does_there x sid (Keep e ∷ effects) w is waits = let h = does_there x sid effects (world_did x sid (Keep e) w) is waits in record { way = h.way; ends = h.ends }
does_there x sid (Touch change ∷ effects) w is waits = let h = does_there x sid effects (world_did x sid (Touch change) w) is waits in record { way = h.way; ends = h.ends }
does_there x sid (AskSize name ∷ effects) w is waits = let h = does_there x sid effects (world_did x sid (AskSize name) w) is waits in record { way = h.way; ends = h.ends }
does_there x sid (AskBytes name at len ∷ effects) w is waits = let h = does_there x sid effects (world_did x sid (AskBytes name at len) w) is waits in record { way = h.way; ends = h.ends }
does_there x sid (Begin key phase ∷ effects) w is waits = let h = does_there x sid effects (world_did x sid (Begin key phase) w) is waits in record { way = h.way; ends = h.ends }
does_there x sid (Go phase frames ∷ effects) w is waits = by_gone (is_gone phase) refl is (does_there x sid effects (world_did x sid (Go phase frames) w)) where
  v : World
  v = world_did x sid (Go phase frames) w

  way_v : v.b.way sid ≡ w.b.way sid ++ frames
  way_v = here_is sid (behind_them (w.b.ends sid) (w.b.way sid) frames) w.b.way ∙ behind_open (w.b.ends sid) (w.b.way sid) frames waits

  by_gone : (b : Bool) → is_gone phase ≡ b → orderly b effects ≡ true → (orderly false effects ≡ true → v.b.ends sid ≡ false → WayThere sid effects v (world_does x sid effects v)) → WayThere sid (Go phase frames ∷ effects) w (world_does x sid effects v)
  by_gone true gone rest more =
      let quiet : Quiet sid effects v (world_does x sid effects v) = does_quiet x sid effects v rest in
      let last : (world_does x sid effects v).a.node.sessions.phase sid ≡ phase = quiet.phase ∙ here_is sid phase w.a.node.sessions.phase in
      record {
        way = quiet.way_b ∙ way_v ∙ ap (λ (l : List Message). w.b.way sid ++ l) (sym (append-nil frames) ∙ ap (λ (l : List Message). frames ++ l) (sym quiet.sends));
        ends = λ ended. ap is_gone last ∙ gone;
      }
  by_gone false stays rest more =
      let waits_v : v.b.ends sid ≡ false = open_here sid (is_gone phase) true w.b.ends stays ∙ waits in
      let h : WayThere sid effects v (world_does x sid effects v) = more rest waits_v in
      record { way = h.way ∙ ap (λ (l : List Message). l ++ sends effects) way_v ∙ append_assoc (w.b.way sid) frames (sends effects); ends = h.ends }
