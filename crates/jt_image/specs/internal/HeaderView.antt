-- The view of unit headers as the reader keeps them. Only private clauses cite it.
use Rattle.std.specs.Prelude.{List, map}
use Rattle.jt_image.specs.Reading as reading
use Rattle.jt_image.specs.declared.units.Header.{Header}

abbrev pub header_view : Header → reading.Header
header_view h = record { parameters = h.parameters; kind = h.kind; locals = h.locals; len = h.len }

abbrev pub headers_view : List Header → List reading.Header
headers_view hs = map header_view hs
