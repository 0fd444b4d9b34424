-- Headers as C sees them, and what calls on them return.
use Rattle.std.specs.Prelude.{◌≡◌, ℕ, ◌<◌, ◌≤◌, List}
use Rattle.extents.specs.declared.header.Header.{Header}
use Rattle.extents.specs.declared.header.Header.TheVariants.{Blank, Is}
use Rattle.extents.specs.declared.header.Kind.TheVariants.{Data, Trim}
use Rattle.extents.specs.Header.{Spells, header_bytes}
use Rattle.raid_c.specs.declared.header.UnitHeader.{UnitHeader}
use Rattle.raid_c.specs.declared.status.Status.{Status}
use Rattle.raid_c.specs.declared.status.Status.TheVariants as is
use Rattle.raid_c.specs.Records.{as_record}

-- a header has a kind, 0 for a blank one, 1 for data and 2 for a trim, and a record
abbrev pub ShowsHeader : UnitHeader → Header → Type 0
ShowsHeader seen Blank = seen.kind ≡ 0
ShowsHeader seen (Is r Data) = (seen.kind ≡ 1) × (as_record seen.record ≡ r)
ShowsHeader seen (Is r Trim) = (seen.kind ≡ 2) × (as_record seen.record ≡ r)

-- the same of a header that was decoded: of a blank one the record is zeros
abbrev pub Decoded : UnitHeader → Header → Type 0
Decoded seen Blank = (seen.kind ≡ 0) × (as_record seen.record ≡ record { block = 0; version = 0; hop = 0; place = 0 })
Decoded seen header = ShowsHeader seen header

-- the bytes spell the header; where they spell none, it stays
abbrev pub DecodesHeader : Status → List ℕ → UnitHeader → UnitHeader → Type 0
DecodesHeader is.Done bytes old new = (header : Header) × Decoded new header × Spells bytes header
DecodesHeader is.NoHeader bytes old new = ((header : Header) → Spells bytes header → ⊥) × (new ≡ old)
DecodesHeader _ bytes old new = ⊥

-- there is no header with this kind and record
abbrev pub IsNoHeader : Status → UnitHeader → Type 0
IsNoHeader is.Version seen = (1 ≤ seen.kind) × (seen.kind ≤ 2) × (seen.record.version ≡ 0)
IsNoHeader is.Range seen = 2 < seen.kind
IsNoHeader _ seen = ⊥

-- the bytes are those of the header in layout 2, which they spell; where there is no such header, they stay
abbrev pub EncodesHeader : Status → UnitHeader → List ℕ → List ℕ → Type 0
EncodesHeader is.Done seen old new = (header : Header) × ShowsHeader seen header × (new ≡ header_bytes header) × Spells new header
EncodesHeader status seen old new = IsNoHeader status seen × (new ≡ old)
