use Rattle.jt_names.proofs.templates.facts_of_template.Goals as goal
use Rattle.jt_names.specs.declared.own.NamesOf.TheVariants.{Template}
use Rattle.jt_names.proofs.{file_at, names_of_includes, names_inserted}

pub returns : goal.returns
returns c =
    let tree = file_at c.args.chain.now.templates.items c.args.index c.index.result.now c.requires c.index.ensures in
    let uses = rw (c.body.ensures, ← tree) at c.in_ok-uses.ensures in
    record {
      uses = uses;
      names =
          rw (
            c.in_ok-names.ensures,
            c.in_ok-add_used.ensures,
            c.deref.ensures.value,
            uses,
            names_inserted Template,
            c.new-names.ensures.empty,
          );
      all_macros = rw c.deref-3.ensures.value at c.in_ok-macros.ensures;
      all_blocks = rw c.deref-4.ensures.value at c.in_ok-blocks.ensures;
      includes = rw (c.in_ok-includes.ensures, c.deref-2.ensures.value, uses, names_of_includes);
    }
