-- What is asked of the files before a reaction, and what an answer is.
use Rattle.std.specs.Prelude.{◌≡◌, ℕ, List, length, take, drop, Option, option_map}
use Rattle.cd_outside.specs.Shelf.{Shelf, content_of}
use Rattle.cd_entries.specs.declared.entry.Entry.{Entry}
use Rattle.cd_rules.specs.Steps.{Reading, what_at}
use Rattle.cd_rules.specs.Queue.{Waits}
use Rattle.cd_protocol.specs.declared.session.Phase.{Phase}
use Rattle.cd_protocol.specs.declared.session.Continuation.{Continuation}
use Rattle.cd_protocol.specs.declared.session.Continuation.TheVariants.{Done, Next, Undo, Push, Offered, Onto, Piece}
use Rattle.cd_protocol.specs.Node.{Config, NodeView, Reaction, Answers}
use Rattle.cd_protocol.specs.Rows.{checked, reaction_behind, source_in}
use Rattle.cd_protocol.specs.Sending.{piece_len}
use Rattle.cd_exchange.specs.declared.rules_trait.Question as told
use Rattle.cd_exchange.specs.declared.rules_trait.Question.TheVariants as a_question
use Rattle.cd_exchange.specs.declared.given.Given.{Given}

-- what a node is set up with, but for how its texts are read
pub record Setting : Type 0 where
  pub block : ℕ
  pub partner : List ℕ → Option Waits

abbrev pub config_with : Setting → Reading → Config
config_with setting read = record { block = setting.block; partner = setting.partner; read = read }

abbrev pub view_with : Setting → Reading → List Entry → NodeView
view_with setting read entries = record { config = config_with setting read; journal = entries }

-- nothing; the length of a destination, or of a source; or bytes of a source, from a place on so many
pub data Question : Type 0 where
  Nothing : Question
  Destination : List ℕ → Question
  Source : List ℕ → Question
  Bytes : List ℕ → ℕ → ℕ → Question

abbrev pub seen_question : told.Question → Question
seen_question a_question.Nothing = Nothing
seen_question (a_question.Destination name) = Destination name.now
seen_question (a_question.Source name) = Source name.now
seen_question (a_question.Bytes name at len) = Bytes name.now at len

-- what is asked before the reaction that comes behind
abbrev pub question_of : NodeView → Continuation → Question
question_of view Done = Nothing
question_of view (Next terms n) = Nothing
question_of view (Undo role terms key why) = Nothing
question_of view (Push terms key) = Source (source_in (what_at view.config.read view.journal key.number key.place))
question_of view (Offered terms key name interval) = Source name
question_of view (Onto role terms key a) = Destination a.name
question_of view (Piece role terms key source offset) = Bytes source.name offset (piece_len terms source offset)

-- the answers of a row, as they were given so far
abbrev pub answers_of : ℕ → Given → List ℕ → Answers
answers_of now given bytes = record { now = now; there = given.there; source = given.source; bytes = bytes }

-- an answer leaves all but what was asked for
abbrev pub IsAnswered : Question → Answers → Answers → Type 0
IsAnswered Nothing before after = after ≡ before
IsAnswered (Destination name) before after = (after.now ≡ before.now) × (after.source ≡ before.source) × (after.bytes ≡ before.bytes)
IsAnswered (Source name) before after = (after.now ≡ before.now) × (after.there ≡ before.there) × (after.bytes ≡ before.bytes)
IsAnswered (Bytes name at len) before after = (after.now ≡ before.now) × (after.there ≡ before.there) × (after.source ≡ before.source)

-- what was answered is what the files hold
abbrev pub IsTold : Shelf → Question → Answers → Type 0
IsTold shelf Nothing answers = Unit {0}
IsTold shelf (Destination name) answers = answers.there ≡ option_map length (shelf.seen name)
IsTold shelf (Source name) answers = answers.source ≡ option_map length (shelf.seen name)
IsTold shelf (Bytes name at len) answers = answers.bytes ≡ take len (drop at (content_of (shelf.seen name)))

-- the reaction that comes behind another one, in the phase that the session has then
abbrev pub reaction_at : NodeView → Phase → Answers → Continuation → Reaction
reaction_at view phase answers then_what = checked view answers.now phase (reaction_behind view answers.now phase answers then_what)
