-- The id of a party.
use Rattle.std.specs.Prelude.{ℕ}
use Rattle.lock_modes.specs.declared.party.PartyId.{PartyId}

abbrev pub id_of : PartyId → ℕ
id_of party = party.id
