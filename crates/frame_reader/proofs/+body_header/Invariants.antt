-- `frame_reader::header` and `frame_reader::body`: the bytes left in the frame fall with each call, from the header to the body by the header's ten.
use Rattle.std.proofs.Common.{◌+◌, ◌-◌}
use Rattle.frame_reader.proofs.+body_header.Given as goal

abbrev pub decreases-body : goal.decreases-body
decreases-body l = l.end - (l.from + 10)

abbrev pub decreases-header : goal.decreases-header
decreases-header l = l.end - l.at
