-- The bytes of a part of a text.
use Rattle.std.specs.Prelude.{ℕ, List}
use Rattle.script_text.specs.declared.part.Part.{Part}

abbrev pub bytes_of : Part → List ℕ
bytes_of (Part.Text text) = text.now
bytes_of (Part.Bytes bytes) = bytes.now
