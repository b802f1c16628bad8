-- Two nodes at their beginning, as a world.
use Rattle.std.proofs.Common.{◌≡◌, ℕ, suc, false, true, List, [], ◌∷◌, length, Some, None, refl, sym, ◌∙◌, ap, subst}
use Rattle.std.specs.Prelude.{slice_get}
use Rattle.cd_entries.specs.declared.entry.Entry.TheVariants as entry
use Rattle.cd_outside.specs.Shelf.{settled_shelf}
use Rattle.cd_rules.specs.Promises.{HavePriorities}
use Rattle.cd_rules.specs.Steps.{Reading}
use Rattle.cd_effects.specs.Stands.{holder_of}
use Rattle.cd_effects.specs.declared.owners.Holding.{Holding}
use Rattle.cd_exchange.specs.Sessions.{phase_among}
use Rattle.cd_exchange.specs.declared.session.Session.{Session}
use Rattle.cd_session_rules.specs.NodeView.{view_of}
use Rattle.cd_plain.specs.Law.{number_of}
use Rattle.cd_plain.specs.NodeState.{NodeState}
use Rattle.cd_plain.specs.Turned.{Told}
use Rattle.cd_world.specs.World.{Half, World, no_sessions, IsNew, IsFirst}
use Rattle.cd_drill_world.proofs.Mirrors.{IsHalf, IsWorldOf}
use Rattle.cd_drill_world.proofs.Numbered.{AreNumbered}
use Rattle.std.specs.Prelude.{map}

-- a node has its Home alone, no session, and no file
pub record HasHomeAlone (name : List ℕ) (home : ℕ) (node : NodeState) (told : Told) : Type 0 where
  pub journal : node.registry.entries ≡ entry.Home name home ∷ []
  pub sessions : node.sessions ≡ []
  pub readings : node.readings ≡ []
  pub holdings : node.holdings ≡ []
  pub shelf : told.shelf ≡ settled_shelf (λ file. None)

module _ (read : Reading) (now : ℕ) (a b : NodeState) (told_a told_b : Told) (priorities : HavePriorities read) where
  abbrev half_at_first : NodeState → Half
  half_at_first n = record {
    node = record { view = view_of read n.config n.registry.entries; shelf = settled_shelf (λ file. None); sessions = no_sessions };
    up = true;
    settled = λ file. None;
    spoiled = [];
    received = λ key. [];
    calls = [];
    way = λ sid. [];
    ends = λ sid. false;
  }

  abbrev pub world_at_first : World
  world_at_first = record { a = half_at_first a; b = half_at_first b; notes = []; clock = now; sessions = 1 }

  new_at_first : (name : List ℕ) (home : ℕ) (n : NodeState) (told : Told) → HasHomeAlone name home n told → IsNew name home (half_at_first n)
  new_at_first name home n told alone = record {
    journal = alone.journal;
    priorities = priorities;
    files = λ file. None;
    shelf = refl;
    settled = refl;
    spoiled = refl;
    sessions = refl;
    received = refl;
    calls = refl;
    way = refl;
  }

  pub first_world : (name_a name_b : List ℕ) (home_a home_b : ℕ) → (name_a ≡ name_b → ⊥) → (home_a ≡ home_b → ⊥) → HasHomeAlone name_a home_a a told_a → HasHomeAlone name_b home_b b told_b → IsFirst world_at_first
  first_world name_a name_b home_a home_b names homes alone_a alone_b = record {
    name_a = name_a;
    home_a = home_a;
    name_b = name_b;
    home_b = home_b;
    names = names;
    homes = homes;
    a = new_at_first name_a home_a a told_a alone_a;
    b = new_at_first name_b home_b b told_b alone_b;
    notes = refl;
  }

  half_is : (name : List ℕ) (home : ℕ) (here other : NodeState) (told : Told) (given : ℕ → List ℕ) → HasHomeAlone name home here told → IsHalf read here other told given (half_at_first here)
  half_is name home here other told given alone = record {
    node = record {
      view = refl;
      sids = sym (ap (map number_of) alone.sessions);
      phases = λ n. sym (ap (λ (l : List Session). phase_among l n) alone.sessions);
      owners = λ key. sym (ap (λ (l : List Holding). holder_of l key) alone.holdings);
    };
    shelf = sym alone.shelf;
    up = refl;
    calls = refl;
    numbered = subst (AreNumbered 1) (sym alone.sessions) tt;
    readers = ap length alone.readings ∙ sym (ap length alone.sessions);
    spoken = λ at s r is open_s reads. let never : None ≡ Some s = ap (λ (l : List Session). slice_get l at) (sym alone.sessions) ∙ is in absurd cc;
  }

  pub begun_world : (name_a name_b : List ℕ) (home_a home_b : ℕ) → HasHomeAlone name_a home_a a told_a → HasHomeAlone name_b home_b b told_b → IsWorldOf read now a b told_a told_b world_at_first
  begun_world name_a name_b home_a home_b alone_a alone_b = record {
    a = half_is name_a home_a a b told_a told_b.traffic.given alone_a;
    b = half_is name_b home_b b a told_b told_a.traffic.given alone_b;
    clock = refl;
    count = ap length alone_b.sessions ∙ sym (ap length alone_a.sessions);
    sessions = ap suc (sym (ap length alone_a.sessions));
  }
