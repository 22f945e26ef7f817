-- Raw mutexes with the traits that scripts need.
use Rattle.lock_conform.specs.declared.plain_raw.PlainRaw.{PlainRaw}

abbrev pub raw_of : {R : Type 0} → PlainRaw R → R
raw_of plain = plain.raw
