-- A stream over the limit is refused; any other is encoded as one of one.
use Rattle.xcf_encode.proofs.Answers.{stream_long, stream_room}
use Rattle.xcf_encode.proofs.Parts.{one_encoding}
use Rattle.xcf_encode.proofs.encoded_stream.Goals as goal

pub returns-then-stream-gt-STREAM_LIMIT : goal.returns-then-stream-gt-STREAM_LIMIT
returns-then-stream-gt-STREAM_LIMIT c = stream_long _ _ c.if-stream-gt-STREAM_LIMIT.true

pub returns : goal.returns
returns c =
    let room = stream_room c.args.stream.now c.args.output.now c.if-stream-gt-STREAM_LIMIT.false in
    rw (c.new.ensures, one_encoding, room) at c.encode.ensures
