use Rattle.std.proofs.Common.{sym}
use Rattle.std.proofs.lemmas.List.{drop-drop}
use Rattle.cd_commands.proofs.cursor.Cursor.skip.Goals as goal

pub returns-clause-rest : goal.returns-clause-rest
returns-clause-rest c = rw (← c.self.view_is) (sym (drop-drop 1 c.self.inside.place c.self.inside.tokens.now))
