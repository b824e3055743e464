-- The view in contracts of the templates of a chain.
use Rattle.std.specs.Prelude.{List}
use Rattle.jt_ast.specs.StatementView.{body_view}
use Rattle.jt_chains.specs.Chain.{Template}
use Rattle.jt_chains.specs.Parts.{name_at}
use Rattle.jt_chains.specs.declared.layers.Layer.{Layer}

abbrev pub layer_view : List Template → Layer → Template
layer_view ts l = record { name = name_at ts l.template; body = body_view l.body.now }
