-- The view of a place: the list of its open brackets.
use Rattle.jt_hints.specs.declared.places.Place as declared
use Rattle.jt_hints.specs.Forms.{Place}

abbrev pub place_view : declared.Place → Place
place_view p = record {
  form = p.form;
  brackets = p.brackets.items;
  before = p.before;
  compared = p.compared;
  valued = p.valued;
}
