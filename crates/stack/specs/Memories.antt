-- Flat memories of each make: what they mean, and what a put does exactly to what they own or were lent.
use Rattle.std.specs.Prelude.{◌≡◌, ℕ, List, vec_items}
use Rattle.std.specs.Global.{Vec}
use Rattle.std.specs.Borrow.{MutBor}
use Rattle.stack.specs.Memory.{Meaning, Piece}
use Rattle.stack.specs.Flat.{Lent, flat_means, written}
use Rattle.stack.specs.Words.{bytes_of}
use Rattle.stack.specs.declared.flat.FlatMemory.{FlatMemory}

-- memories in bytes of their own, in words of their own, and in bytes that a host lends
abbrev pub ByteMemory : Type 0
ByteMemory = FlatMemory (Vec ℕ)

abbrev pub WordMemory : Type 0
WordMemory = FlatMemory (Vec ℕ)

abbrev pub LentMemory : Type 0
LentMemory = FlatMemory (MutBor (List ℕ))

-- the bytes by their places
abbrev pub byte_means : ByteMemory → Meaning
byte_means s = flat_means (vec_items s.bytes)

-- the bytes of the piece are written, and no other
abbrev pub BytesStored : ByteMemory → Piece → ByteMemory → Type 0
BytesStored s p t = vec_items t.bytes ≡ written (vec_items s.bytes) p

-- the words' bytes by their places
abbrev pub word_means : WordMemory → Meaning
word_means s = flat_means (bytes_of (vec_items s.bytes))

-- the same of the words' bytes
abbrev pub WordsStored : WordMemory → Piece → WordMemory → Type 0
WordsStored s p t = bytes_of (vec_items t.bytes) ≡ written (bytes_of (vec_items s.bytes)) p

-- the lent bytes by their places
abbrev pub lent_means : LentMemory → Meaning
lent_means s = flat_means s.bytes.now

-- the bytes of the piece are written, and no other, in the same loan
abbrev pub LentStored : LentMemory → Piece → LentMemory → Type 0
LentStored s p t = Lent s.bytes (written s.bytes.now p) t.bytes
