-- Where a line begins, and where a fault is.
use Rattle.stack.specs.declared.place.Place.{Place}
use Rattle.layers.specs.declared.line.BufferedLine.{BufferedLine}
use Rattle.layers.specs.declared.fault.Fault.{Fault}

abbrev pub line_start : BufferedLine → Place
line_start l = record { bank = l.bank; index = l.index; byte = 0 }

abbrev pub fault_place : Fault → Place
fault_place f = record { bank = f.bank; index = f.index; byte = f.byte }
