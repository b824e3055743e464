-- The view of a trailer as the reader keeps it. Only private clauses cite it.
use Rattle.std.specs.Prelude.{ℕ, List, length, drop}
use Rattle.std.specs.List.{AllByRecursion}
use Rattle.jt_image.specs.declared.version.Version.{Version}
use Rattle.jt_image.specs.Reading as reading
use Rattle.jt_image.specs.InPlace.{templates_in, HasTemplate, locs_in, AreSourceLocs}
use Rattle.jt_image.specs.declared.trailer.Trailer.{Trailer}

abbrev pub trailer_in : Version → ℕ → List ℕ → Trailer → reading.Trailer
trailer_in v n bytes b =
    record {
      templates = templates_in bytes b.templates.items;
      places = locs_in v (length b.templates.items) n (drop b.places bytes);
    }

-- The bytes have each template and all places of the trailer.
pub record IsTrailerIn (v : Version) (n : ℕ) (bytes : List ℕ) (b : Trailer) : Type 0 where
  pub templates : AllByRecursion (HasTemplate bytes) b.templates.items
  pub places : AreSourceLocs v (length b.templates.items) n (drop b.places bytes)
