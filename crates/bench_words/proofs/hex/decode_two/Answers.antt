use Rattle.bench_words.proofs.HexLaws.{part_none, part_wrong, part-both}
use Rattle.bench_words.proofs.hex.decode_two.Goals as goal

pub returns-in_err-middle : goal.returns-in_err-middle
returns-in_err-middle c = part_none _ c.args.second.now _ _ c.decode.new.bytes _ c.decode.ensures _ c.from_residual.ensures c.in_err-middle.was

pub returns-in_err-end : goal.returns-in_err-end
returns-in_err-end c =
    part_wrong _ _ _ _ _ _ c.decode.ensures _ c.in_ok-middle.was _ c.decode-2.ensures _ c.from_residual-in_err-end.ensures c.in_err-end.was

pub returns : goal.returns
returns c = part-both _ _ _ _ _ _ c.decode.ensures _ c.in_ok-middle.was _ c.decode-2.ensures _ c.in_ok-end.was
