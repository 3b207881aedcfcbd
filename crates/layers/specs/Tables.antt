-- What the tables hold, in order.
use Rattle.std.specs.Prelude.{List}
use Rattle.layers.specs.declared.fault.Fault.{Fault}
use Rattle.layers.specs.declared.line.BufferedLine.{BufferedLine}
use Rattle.layers.specs.declared.injector.FaultTable.{FaultTable}
use Rattle.layers.specs.declared.buffer.LineTable.{LineTable}

-- the faults that stand
abbrev pub faults_in : FaultTable → List Fault
faults_in t = t.faults.items

-- the lines that are buffered
abbrev pub lines_in : LineTable → List BufferedLine
lines_in t = t.lines.items
