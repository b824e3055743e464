use Rattle.std.proofs.Common.{◌≡◌, ◌^◌, Ok, arith, rules}
use Rattle.std.specs.Int.{w16}
use Rattle.jt_image.specs.InPlace.{template_in, code_in}
use Rattle.jt_image.specs.Reading.{code_of}
use Rattle.jt_image.proofs.DecodeSoundLemmas.{all_at, wide16}
use Rattle.jt_image.proofs.WholeCodeSound.{IsSpelledBy, code_found}
use Rattle.std.proofs.lemmas.List.{length-map}
use Rattle.jt_image.proofs.TablesInPlace.{number_last, start_last}
use Rattle.jt_image.proofs.reading.read_through.Goals as goal

pub all_names_at-requires : goal.all_names_at-requires
all_names_at-requires c =
    let start = start_last c.args.bytes.now c.in_ok-version.version c.in_ok-version.rest.now (omega arith)
    (λ i. omega (arith, c.type_inv.bytes i)) c.in_ok-version.ensures in
    number_last w16 (2 ^ 16) wide16 c.args.bytes.now c.in_ok-version.rest.now c.in_ok-globals.globals
    c.in_ok-globals.rest.now (λ i. omega (arith, c.type_inv.bytes i)) start c.in_ok-globals.ensures

pub returns-clause-spells : goal.returns-clause-spells
unfolding code_of
returns-clause-spells c =
    let k = code_in c.args.bytes.now (record {
      version = c.in_ok-version.version;
      globals = c.in_ok-globals.globals;
      names = c.in_ok-names.names;
      constants = c.in_ok-constants.constants;
      units = c.in_ok-units.units.items;
      instructions = c.in_ok-units.units.instructions;
      templates = c.in_ok-back.back.templates;
      places = c.in_ok-back.back.places;
    }) in
    let e : code_of c.args.bytes.now ≡ Ok k = search rules in
    let found = all_at (code_of c.args.bytes.now) (IsSpelledBy c.args.bytes.now) k e
    (code_found c.args.bytes.now (λ i. omega (arith, c.type_inv.bytes i))) in
    record {
      code = found.0;
      spelled = found.1;
      there = record {
        names = c.in_ok-names.ensures.read.there;
        constants = c.in_ok-constants.ensures.read.there;
        units = c.in_ok-units.ensures.read.there;
        instructions = c.in_ok-units.ensures.total;
        counted = c.in_ok-units.ensures.counted;
        few =
            omega (
              arith,
              found.0.count_templates,
              length-map c.in_ok-back.back.templates.items (template_in c.args.bytes.now),
            );
        templates = c.in_ok-back.ensures.there.templates;
        places = c.in_ok-back.ensures.there.places;
      };
    }
