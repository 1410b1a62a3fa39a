-- `put_tile` meets its contract: the frame leaves room for its lines (`frame_room`).
use Rattle.xcf_grid.specs.Parts.{put_frame}
use Rattle.xcf_grid.proofs.PutRoom.{frame_room}
use Rattle.xcf_grid.proofs.put.put_tile.Goals as goal

pub put_lines-requires : goal.put_lines-requires
put_lines-requires c = frame_room _ _ c.requires

pub returns : goal.returns
unfolding put_frame
returns c = c.put_lines.ensures
