-- `put_flag` sets nothing past the end. Assumes nothing.
use mathlib.Core.Path.{sym}
use lib.Seq.{set_out}
use Rattle.segment_parts.proofs.symbols_by_offset.flags.put_flag.Goals as goal

pub returns-else-b-flags : goal.returns-else-b-flags
returns-else-b-flags c =
    sym (set_out c.args.flags.now c.args.b c.args.flag c.if-b-flags.false)
