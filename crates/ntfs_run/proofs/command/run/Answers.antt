use Rattle.ntfs_run.proofs.ReplyLemmas.{replies}
use Rattle.ntfs_run.proofs.command.run.Goals as goal

pub returns : goal.returns
returns g c = rw c.status_of-status.ensures (replies g.S.Shelf g.I.Source g.O.Sink g.E.Sink _ _ c.args.shelf.now c.answer.new.shelf c.args.input.now c.answer.new.input
    c.args.out.now c.answer.new.out c.args.err.now c.put_message.new.err c.answer.result c.put_message.result c.read_request-request.ensures.reads
    c.read_request-request.ensures.kinds c.read_request-request.ensures.tool c.read_request-request.ensures.stands
    (record {
      does = c.answer.ensures.does;
      left = c.answer.ensures.left;
      others = c.answer.ensures.others;
      input = c.answer.ensures.input;
      runs = c.answer.ensures.runs;
      taken = c.answer.ensures.taken;
      shows = c.answer.ensures.shows;
    })
    (rw (c.tool_in.ensures, c.status_of-status.ensures) at c.put_message.ensures.put) c.put_message.ensures.cause)
