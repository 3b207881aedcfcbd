-- A board over a pile, as a value that every call determines.
use Rattle.std.specs.Prelude.{ℕ, List, [], replicate}
use Rattle.std.specs.List.{range_with_len}
use Rattle.stack.specs.Memories.{ByteMemory}
use Rattle.layers.specs.declared.buffer.WriteBuffer.{WriteBuffer}
use Rattle.layers.specs.declared.injector.FaultInjector.{FaultInjector}
use Rattle.rules.specs.Rules.{HostCall, State, along, puts}
use Rattle.rules.specs.Boards.{board}
use Rattle.rules.specs.History.{marks_after}
use Rattle.rules.specs.Work.{formatting}
use Rattle.rules.specs.declared.calls.Call.{Call}
use Rattle.rules.specs.declared.calls.Call.TheVariants.{Clear, Mark, Pass, Read, Renew, Scrub, Settle, Write}
use Rattle.board.specs.Marks.{listed}
use Rattle.board.specs.declared.board.Board.{Board}
use Rattle.script.specs.Piles.{Pile, in_turn, meaning, passed, pile_of, put, settled, size}

-- the pile, and the marked banks in order
pub record Machine : Type 0 where
  pub pile : Pile
  pub marks : List ℕ

abbrev pub machine : Pile → List ℕ → Machine
machine s marks = record { pile = s; marks = marks }

-- the board that a program holds
abbrev pub machine_of : Board (WriteBuffer (FaultInjector ByteMemory)) → Machine
machine_of b = machine (pile_of b.stack) (listed b.marks)

-- the board as its rules see it
abbrev pub view : Machine → State
view m = board (meaning m.pile) m.marks

-- a board formatted: zeros are put everywhere, and settled
abbrev pub formatted : Pile → Machine
formatted s = machine (settled (in_turn put s (along (λ _. formatting) (range_with_len 0 (size s))))) []

-- the pile after a call: settled, passed, or with the pieces put that the rules name
abbrev pub put_as_ruled : Machine → HostCall → Pile
put_as_ruled m c = in_turn put m.pile (puts (view m) c)

abbrev pub pile_after : Machine → HostCall → Pile
pile_after m (Read a n) = put_as_ruled m (Read a n)
pile_after m (Write a l) = put_as_ruled m (Write a l)
pile_after m (Renew a l) = put_as_ruled m (Renew a l)
pile_after m (Clear a) = put_as_ruled m (Clear a)
pile_after m (Scrub a w) = put_as_ruled m (Scrub a w)
pile_after m (Mark b w) = put_as_ruled m (Mark b w)
pile_after m Settle = settled m.pile
pile_after m Pass = passed m.pile

-- the board after a call
unfoldable pub after_call : Machine → HostCall → Machine
after_call m c = machine (pile_after m c) (marks_after (view m) c)

-- a call with that line
abbrev pub with_that_line : Call ℕ → List ℕ → HostCall
with_that_line (Read a n) l = Read a n
with_that_line (Write a x) l = Write a l
with_that_line (Renew a x) l = Renew a l
with_that_line (Clear a) l = Clear a
with_that_line (Scrub a w) l = Scrub a w
with_that_line (Mark b w) l = Mark b w
with_that_line Settle l = Settle
with_that_line Pass l = Pass

-- the byte that fills the line of a call; 0 where it has none
abbrev pub byte_of_line : Call ℕ → ℕ
byte_of_line (Read a n) = 0
byte_of_line (Write a x) = x
byte_of_line (Renew a x) = x
byte_of_line (Clear a) = 0
byte_of_line (Scrub a w) = 0
byte_of_line (Mark b w) = 0
byte_of_line Settle = 0
byte_of_line Pass = 0

-- a call with the line that its byte fills
abbrev pub filled : Call ℕ → HostCall
filled c = with_that_line c (replicate 64 (byte_of_line c))
