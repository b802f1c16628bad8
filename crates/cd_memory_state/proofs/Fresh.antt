-- A session of which nothing was taken or given changes nothing of what is told.
use Rattle.std.proofs.Common.{◌≡◌, ℕ, List, [], ◌∷◌, ◌++◌, zero, suc, get_or, refl, sym, ◌∙◌, ap}
use Rattle.cd_outside.specs.Lines.{Traffic}
use Rattle.cd_memory_state.specs.Sessions.{SessionHeld, fresh_session, session_at, traffic_of}

more : (sessions : List SessionHeld) (i : ℕ) → get_or (sessions ++ fresh_session ∷ []) i fresh_session ≡ get_or sessions i fresh_session
more [] zero = refl
more [] (suc i) = refl
more (session ∷ sessions) zero = refl
more (session ∷ sessions) (suc i) = more sessions i

pub one_more : (sessions now : List SessionHeld) (new : SessionHeld) → now ≡ sessions ++ new ∷ [] → new ≡ fresh_session → (session : ℕ) → session_at now session ≡ session_at sessions session
one_more sessions now new is fresh zero = refl
one_more sessions now new is fresh (suc i) = (λ j. get_or (is j) i fresh_session) ∙ (λ j. get_or (sessions ++ fresh j ∷ []) i fresh_session) ∙ more sessions i

pub same_traffic : (sessions now : List SessionHeld) (sends : List ℕ) → ((session : ℕ) → session_at now session ≡ session_at sessions session) → traffic_of now sends ≡ traffic_of sessions sends
same_traffic sessions now sends same = λ j. record { taken = λ session. (same session j).taken; given = λ session. (same session j).given; sends = sends }

-- without sessions each is one of which nothing was taken or given
pub none_yet : (session : ℕ) → session_at [] session ≡ fresh_session
none_yet zero = refl
none_yet (suc i) = refl
