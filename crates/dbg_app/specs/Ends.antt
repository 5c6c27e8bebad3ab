-- How a file that was not judged, or a text that was not written to its end, ends a run.
use Rattle.io_edge.specs.declared.sink_end.SinkEnd.{SinkEnd}
use Rattle.io_edge.specs.declared.sink_end.SinkEnd.TheVariants as sink
use Rattle.io_edge.specs.declared.bounded.ReadEnd.{ReadEnd}
use Rattle.io_edge.specs.declared.bounded.ReadEnd.TheVariants as read
use Rattle.dbg_app.specs.declared.halt.Halt.{Halt}
use Rattle.dbg_app.specs.declared.halt.Halt.TheVariants.{ReadFault, WriteFault, NoMemory}

abbrev pub read_halt : ReadEnd → Halt
read_halt read.Failed = ReadFault
read_halt read.NoMemory = NoMemory

abbrev pub halt_of : SinkEnd → Halt
halt_of sink.Failed = WriteFault
halt_of sink.NoMemory = NoMemory
