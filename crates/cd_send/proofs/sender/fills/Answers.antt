use Rattle.std.proofs.Common.{length}
use Rattle.cd_outside.specs.Shelf.{content_of}
use Rattle.cd_send.proofs.WholeReads.{read_whole}
use Rattle.cd_send.proofs.sender.fills.Goals as goal

pub returns-clause-whole : goal.returns-clause-whole
returns-clause-whole g c told =
    read_whole c.in_ok-n.n c.args.at c.args.into.now c.read.new.into (content_of ((g.F.Files.state c.args.files.now).shelf.seen c.args.name.now)) c.requires c.read.auto.into
    c.in_ok-n.ensures.within (c.in_ok-n.ensures.bytes told)
