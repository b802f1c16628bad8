-- Events one behind another, and the two views of a world.
use Rattle.std.proofs.Common.{ℕ, suc, List, [], ◌∷◌, ◌++◌, refl, sym, ◌∙◌, ap, subst}
use Rattle.cd_rules.specs.Steps.{Reading}
use Rattle.cd_plain.specs.NodeState.{NodeState}
use Rattle.cd_plain.specs.Turned.{Told}
use Rattle.cd_types.specs.declared.card.Filed.{Filed}
use Rattle.cd_world.proofs.GrownLaw.{after_append}
use Rattle.cd_world.specs.World as worlds
use Rattle.cd_world.specs.World.{At, A, B, across, World, seen_from, Happening, world_after, world_lost, world_written, world_submitted, Event, Does, Loses, Writes, Submits, happens, after, ArePossible}
use Rattle.cd_drill_world.proofs.Mirrors.{IsWorldOf, Leads}

possible_append : (w : World) (first second : List Event) → ArePossible w first → ArePossible (after w first) second → ArePossible w (first ++ second)
possible_append w [] second one two = two
possible_append w (event ∷ first) second one two = (one.0, possible_append (happens w event) first second one.1 two)

pub leads_none : (x : At) (v : World) → Leads x v v
leads_none x v = record { events = []; possible = tt; is = refl }

pub leads_then : (x : At) (first second third : World) → Leads x first second → Leads x second third → Leads x first third
leads_then x first second third one two = record {
  events = one.events ++ two.events;
  possible = possible_append (seen_from x first) one.events two.events one.possible (subst (λ (w : World). ArePossible w two.events) (sym one.is) two.possible);
  is = after_append (seen_from x first) one.events two.events ∙ ap (λ (w : World). after w two.events) one.is ∙ two.is;
}

pub does_leads : (x : At) (v : World) (happening : Happening) → worlds.Told v happening → Leads x v (world_after x happening v)
does_leads A v happening told = record { events = Does A happening ∷ []; possible = (told, tt); is = refl }
does_leads B v happening told = record { events = Does B happening ∷ []; possible = (told, tt); is = refl }

pub loses_leads : (x : At) (v : World) (sid k : ℕ) → Leads x v (world_lost sid k v)
loses_leads A v sid k = record { events = Loses A sid k ∷ []; possible = (tt, tt); is = refl }
loses_leads B v sid k = record { events = Loses B sid k ∷ []; possible = (tt, tt); is = refl }

pub writes_leads : (x : At) (v : World) (name bytes : List ℕ) → Leads x v (world_written x name bytes v)
writes_leads A v name bytes = record { events = Writes A name bytes ∷ []; possible = (tt, tt); is = refl }
writes_leads B v name bytes = record { events = Writes B name bytes ∷ []; possible = (tt, tt); is = refl }

pub submits_leads : (x : At) (v : World) (card : Filed) (text : List ℕ) → Leads x v (world_submitted card text v)
submits_leads A v card text = record { events = Submits A card text ∷ []; possible = (tt, tt); is = refl }
submits_leads B v card text = record { events = Submits B card text ∷ []; possible = (tt, tt); is = refl }

-- what leads from one node's view leads from the other's
pub leads_there : (x : At) (v v2 : World) → Leads (across x) (seen_from B v) (seen_from B v2) → Leads x v v2
leads_there A v v2 leads = record { events = leads.events; possible = leads.possible; is = leads.is }
leads_there B v v2 leads = record { events = leads.events; possible = leads.possible; is = leads.is }

pub leads_across : (v v2 : World) → Leads B v v2 → Leads A (seen_from B v) (seen_from B v2)
leads_across v v2 leads = record { events = leads.events; possible = leads.possible; is = leads.is }

pub seen_across : (read : Reading) (now : ℕ) (here other : NodeState) (told told_other : Told) (w : World) → IsWorldOf read now here other told told_other w → IsWorldOf read now other here told_other told (seen_from B w)
seen_across read now here other told told_other w is = record { a = is.b; b = is.a; clock = is.clock; count = sym is.count; sessions = is.sessions ∙ ap suc (sym is.count) }
