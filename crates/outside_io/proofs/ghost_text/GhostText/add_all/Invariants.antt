use Rattle.std.proofs.Common.{◌≡◌, ◌++◌, take}
use Rattle.outside_io.specs.GhostTexts.{bytes_of}
use Rattle.outside_io.proofs.ghost_text.GhostText.add_all.Given as goal

abbrev pub invariant-loop-byte : goal.invariant-loop-byte
invariant-loop-byte l = bytes_of l.self ≡ bytes_of l.initial.self ++ take l.byte-index l.piece
