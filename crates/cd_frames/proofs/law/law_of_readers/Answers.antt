use Rattle.std.proofs.Common.{◌∙◌, ap, sym, subst}
use Rattle.cd_frames.proofs.FramesLaw.{GivesNone}
use Rattle.cd_frames.proofs.RunLaw.{all_given, given_begins, run_stands}
use Rattle.cd_frames.specs.Stream.{fault_of, Front}
use Rattle.cd_frames.proofs.law.law_of_readers.Goals as goal

pub returns-clause-given : goal.returns-clause-given
returns-clause-given c = λ stream given reader run. given_begins stream given reader (run_stands run)

pub returns-clause-waiting : goal.returns-clause-waiting
returns-clause-waiting c =
    λ stream given reader run is.
    all_given stream given reader (run_stands run) (subst GivesNone (sym is) tt) ∙ ap (λ (f : Front). (given, fault_of f)) is

pub returns-clause-refusing : goal.returns-clause-refusing
returns-clause-refusing c =
    λ stream given reader why run is.
    all_given stream given reader (run_stands run) (subst GivesNone (sym is) tt) ∙ ap (λ (f : Front). (given, fault_of f)) is
