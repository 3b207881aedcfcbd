-- What a host in C is told of an answer, in numbers.
use Rattle.std.specs.Prelude.{ℕ, Ok, Err}
use Rattle.codec.specs.declared.word.Finding.{Finding}
use Rattle.codec.specs.declared.word.Finding.TheVariants.{Clean, Corrected, Rebuilt, RebuiltCorrected}
use Rattle.rules.specs.Answers.{Answer}
use Rattle.rules.specs.declared.calls.Outcome.TheVariants.{HandedOut, Written, Renewed, Cleared, Scrubbed, Marked, Done}
use Rattle.stack.specs.Refusals.{numbered}
use Rattle.stack.specs.declared.refusal.Refusal.{Refusal}
use Rattle.stack.specs.declared.refusal.Refusal.TheVariants.{AddressOutOfRange, LineLength, BankOutOfRange, BankAlreadyMarked, NoSpareLeft, WorkBufferShort, PartnerUncorrectable, RebuildFailed, PlaceOutOfRange, LengthFitsNoSize, EmptyMask, FaultTableFull, LogFull, LineUnreadable}
use Rattle.ffi.specs.declared.replies.Reply.{Reply}

-- accepted, with a count or a bank
abbrev pub plain : ℕ → Reply
plain n = record { refusal = 0; finding = 0; value = 0; symbol = 0; number = n; address = 0; partner = 0 }

-- refused, with the addresses that the refusal names
abbrev pub refused_by : ℕ → ℕ → ℕ → Reply
refused_by n a p = record { refusal = n; finding = 0; value = 0; symbol = 0; number = 0; address = a; partner = p }

abbrev pub address_in : Refusal → ℕ
address_in AddressOutOfRange = 0
address_in LineLength = 0
address_in BankOutOfRange = 0
address_in BankAlreadyMarked = 0
address_in NoSpareLeft = 0
address_in WorkBufferShort = 0
address_in (PartnerUncorrectable a p) = a
address_in (RebuildFailed a) = a
address_in PlaceOutOfRange = 0
address_in LengthFitsNoSize = 0
address_in EmptyMask = 0
address_in FaultTableFull = 0
address_in LogFull = 0
address_in LineUnreadable = 0

abbrev pub partner_in : Refusal → ℕ
partner_in AddressOutOfRange = 0
partner_in LineLength = 0
partner_in BankOutOfRange = 0
partner_in BankAlreadyMarked = 0
partner_in NoSpareLeft = 0
partner_in WorkBufferShort = 0
partner_in (PartnerUncorrectable a p) = p
partner_in (RebuildFailed a) = 0
partner_in PlaceOutOfRange = 0
partner_in LengthFitsNoSize = 0
partner_in EmptyMask = 0
partner_in FaultTableFull = 0
partner_in LogFull = 0
partner_in LineUnreadable = 0

abbrev pub refused_reply : Refusal → Reply
refused_reply e = refused_by (numbered e) (address_in e) (partner_in e)

-- accepted, with a finding and its pair
abbrev pub found_by : ℕ → ℕ → ℕ → Reply
found_by f s v = record { refusal = 0; finding = f; value = v; symbol = s; number = 0; address = 0; partner = 0 }

abbrev pub found_reply : Finding → Reply
found_reply Clean = found_by 0 0 0
found_reply (Corrected p) = found_by 1 p.0 p.1
found_reply Rebuilt = found_by 2 0 0
found_reply (RebuiltCorrected p) = found_by 3 p.0 p.1

abbrev pub told : Answer → Reply
told (Err e) = refused_reply e
told (Ok (HandedOut l f)) = found_reply f
told (Ok (Written f)) = found_reply f
told (Ok Renewed) = plain 0
told (Ok Cleared) = plain 0
told (Ok (Scrubbed n)) = plain n
told (Ok (Marked b)) = plain b
told (Ok Done) = plain 0
