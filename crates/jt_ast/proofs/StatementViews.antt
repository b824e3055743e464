-- The view of each form of statement.
use Rattle.std.proofs.Common.{◌≡◌, ℕ, List, [], ◌∷◌, map, refl, sym, ap, ◌∙◌, Bool, Vec, Global, String, string_bytes}
use Rattle.std.proofs.Common.{Option}
use Rattle.std.specs.Prelude.{option_map}
use Rattle.jt_ast.specs.Expressions.{Text}
use Rattle.jt_ast.specs.ExpressionView.{expr_view, pairs_view}
use Rattle.jt_ast.specs.Statements as trees
use Rattle.jt_ast.specs.StatementView.{names_view, given_view, filter_calls_view, parameters_view, is_ignored}
use Rattle.jt_ast.specs.StatementView.{passes_context, stmts_of, branches_of, stmt_step, stmt_view, body_view}
use Rattle.jt_ast.specs.StatementView.{branches_view}
use Rattle.jt_ast.specs.declared.expression.Expr.{Expr}
use Rattle.jt_ast.specs.declared.statement.Branch as branch
use Rattle.jt_ast.specs.declared.statement.FilterCall.{FilterCall}
use Rattle.jt_ast.specs.declared.statement.Parameter.{Parameter}
use Rattle.jt_ast.specs.declared.statement.Missing.{Missing}
use Rattle.jt_ast.specs.declared.statement.IncludeContext.{IncludeContext}
use Rattle.jt_ast.specs.declared.statement.Stmt.{Stmt, fold-roll-Stmt}
use Rattle.jt_ast.specs.declared.statement.Stmt.TheOpen.{Stmt-F}
use Rattle.jt_ast.specs.declared.statement.Stmt.TheVariants as v
use Rattle.jt_ast.specs.declared.statement.Stmt.TheVariants.{rolls-Data, rolls-Print, rolls-If, rolls-For, rolls-Set}
use Rattle.jt_ast.specs.declared.statement.Stmt.TheVariants.{rolls-SetBlock, rolls-With, rolls-FilterBlock}
use Rattle.jt_ast.specs.declared.statement.Stmt.TheVariants.{rolls-Autoescape, rolls-Macro, rolls-Include, rolls-Import}
use Rattle.jt_ast.specs.declared.statement.Stmt.TheVariants.{rolls-From, rolls-Extends, rolls-Block}
use Rattle.jt_ast.proofs.RemainingParts.{Branch, Entry}

-- A function that keeps lines and conditions and maps each statement to its view maps branches to
-- their view.
branches-map : (g : Branch → branch.Branch trees.Stmt) → ((b : Branch) → (g b).line ≡ b.line)
    → ((b : Branch) → (g b).condition ≡ b.condition)
    → ((b : Branch) → (g b).body.items ≡ map stmt_view b.body.items) → (bs : List Branch)
    → branches_of (map g bs) ≡ branches_view bs
branches-map g p q r [] = refl
branches-map g p q r (b ∷ bs) =
    ap (λ l. trees.branch l (expr_view (g b).condition) (stmts_of (g b).body.items) (branches_of (map g bs))) (p b)
    ∙ ap (λ e. trees.branch b.line (expr_view e) (stmts_of (g b).body.items) (branches_of (map g bs))) (q b)
    ∙ ap (λ v. trees.branch b.line (expr_view b.condition) (stmts_of v) (branches_of (map g bs))) (r b)
    ∙ ap (trees.branch b.line (expr_view b.condition) (body_view b.body.items)) (branches-map g p q r bs)

pub view_Data : (t : String Global) → stmt_view (v.Data t) ≡ trees.data_of (string_bytes t)
view_Data t = ap stmt_view (sym (rolls-Data t)) ∙ fold-roll-Stmt trees.Stmt stmt_step (Stmt-F.Data t)

pub view_Print : (line : ℕ) (e : Expr) → stmt_view (v.Print line e) ≡ trees.print line (expr_view e)
view_Print line e = ap stmt_view (sym (rolls-Print line e)) ∙ fold-roll-Stmt trees.Stmt stmt_step (Stmt-F.Print line e)

pub view_If : (bs : Vec Branch Global) (other : Vec Stmt Global)
    → stmt_view (v.If bs other) ≡ trees.choose (branches_view bs.items) (body_view other.items)
view_If bs other =
    ap stmt_view (sym (rolls-If bs other)) ∙ fold-roll-Stmt trees.Stmt stmt_step (Stmt-F.If bs other)
    ∙ ap (λ z. trees.choose z (body_view other.items)) (branches-map _ (λ b. refl) (λ b. refl) (λ b. refl) bs.items)

pub view_For : (line : ℕ) (xs : Vec (String Global) Global) (e : Expr) (c : Option Expr) (body other : Vec Stmt Global)
    → stmt_view (v.For line xs e c body other)
    ≡ trees.for_each line (names_view xs.items) (expr_view e) (option_map expr_view c) (body_view body.items)
    (body_view other.items)
view_For line xs e c body other =
    ap stmt_view (sym (rolls-For line xs e c body other))
    ∙ fold-roll-Stmt trees.Stmt stmt_step (Stmt-F.For line xs e c body other)

pub view_Set : (line : ℕ) (xs : Vec (String Global) Global) (e : Expr)
    → stmt_view (v.Set line xs e) ≡ trees.set line (names_view xs.items) (expr_view e)
view_Set line xs e =
    ap stmt_view (sym (rolls-Set line xs e)) ∙ fold-roll-Stmt trees.Stmt stmt_step (Stmt-F.Set line xs e)

pub view_SetBlock : (line : ℕ) (x : String Global) (body : Vec Stmt Global)
    → stmt_view (v.SetBlock line x body) ≡ trees.set_block line (string_bytes x) (body_view body.items)
view_SetBlock line x body =
    ap stmt_view (sym (rolls-SetBlock line x body)) ∙ fold-roll-Stmt trees.Stmt stmt_step (Stmt-F.SetBlock line x body)

pub view_With : (line : ℕ) (ps : Vec Entry Global) (body : Vec Stmt Global)
    → stmt_view (v.With line ps body) ≡ trees.with_values line (pairs_view ps.items) (body_view body.items)
view_With line ps body =
    ap stmt_view (sym (rolls-With line ps body)) ∙ fold-roll-Stmt trees.Stmt stmt_step (Stmt-F.With line ps body)

pub view_FilterBlock : (line : ℕ) (fs : Vec FilterCall Global) (body : Vec Stmt Global)
    → stmt_view (v.FilterBlock line fs body)
    ≡ trees.filter_block line (filter_calls_view fs.items) (body_view body.items)
view_FilterBlock line fs body =
    ap stmt_view (sym (rolls-FilterBlock line fs body))
    ∙ fold-roll-Stmt trees.Stmt stmt_step (Stmt-F.FilterBlock line fs body)

pub view_Autoescape : (line : ℕ) (on : Bool) (body : Vec Stmt Global)
    → stmt_view (v.Autoescape line on body) ≡ trees.autoescape line on (body_view body.items)
view_Autoescape line on body =
    ap stmt_view (sym (rolls-Autoescape line on body))
    ∙ fold-roll-Stmt trees.Stmt stmt_step (Stmt-F.Autoescape line on body)

pub view_Macro : (line : ℕ) (x : String Global) (ps : Vec Parameter Global) (body : Vec Stmt Global)
    → stmt_view (v.Macro line x ps body)
    ≡ trees.macro line (string_bytes x) (parameters_view ps.items) (body_view body.items)
view_Macro line x ps body =
    ap stmt_view (sym (rolls-Macro line x ps body)) ∙ fold-roll-Stmt trees.Stmt stmt_step (Stmt-F.Macro line x ps body)

pub view_Include : (line : ℕ) (n : String Global) (m : Missing) (a : IncludeContext)
    → stmt_view (v.Include line n m a) ≡ trees.include line (string_bytes n) (is_ignored m) (passes_context a)
view_Include line n m a =
    ap stmt_view (sym (rolls-Include line n m a)) ∙ fold-roll-Stmt trees.Stmt stmt_step (Stmt-F.Include line n m a)

pub view_Import : (line : ℕ) (n x : String Global)
    → stmt_view (v.Import line n x) ≡ trees.import_as line (string_bytes n) (string_bytes x)
view_Import line n x =
    ap stmt_view (sym (rolls-Import line n x)) ∙ fold-roll-Stmt trees.Stmt stmt_step (Stmt-F.Import line n x)

pub view_From : (line : ℕ) (n : String Global) (xs : Vec (String Global × String Global) Global)
    → stmt_view (v.From line n xs) ≡ trees.import_from line (string_bytes n) (given_view xs.items)
view_From line n xs =
    ap stmt_view (sym (rolls-From line n xs)) ∙ fold-roll-Stmt trees.Stmt stmt_step (Stmt-F.From line n xs)

pub view_Extends : (line : ℕ) (n : String Global) → stmt_view (v.Extends line n) ≡ trees.extends line (string_bytes n)
view_Extends line n =
    ap stmt_view (sym (rolls-Extends line n)) ∙ fold-roll-Stmt trees.Stmt stmt_step (Stmt-F.Extends line n)

pub view_Block : (line : ℕ) (x : String Global) (scoped required : Bool) (body : Vec Stmt Global)
    → stmt_view (v.Block line x scoped required body)
    ≡ trees.block line (string_bytes x) scoped required (body_view body.items)
view_Block line x scoped required body =
    ap stmt_view (sym (rolls-Block line x scoped required body))
    ∙ fold-roll-Stmt trees.Stmt stmt_step (Stmt-F.Block line x scoped required body)

-- ---- the views of forms, given the values of references to their parts

pub shown_if : (s : Stmt) (bs : Vec Branch Global) (other : Vec Stmt Global) (bs' : List Branch) (other' : List Stmt)
    → s ≡ v.If bs other → bs' ≡ bs.items → other' ≡ other.items
    → trees.choose (branches_view bs') (body_view other') ≡ stmt_view s
shown_if s bs other bs' other' is p q = rw (p, q) (sym (ap stmt_view is ∙ view_If bs other))

pub shown_for : (s : Stmt) (line : ℕ) (xs : Vec (String Global) Global) (e : Expr) (c : Option Expr)
    (body other : Vec Stmt Global) (xs' : List (String Global)) (body' other' : List Stmt)
    → s ≡ v.For line xs e c body other → xs' ≡ xs.items → body' ≡ body.items → other' ≡ other.items
    → trees.for_each line (names_view xs') (expr_view e) (option_map expr_view c) (body_view body') (body_view other')
    ≡ stmt_view s
shown_for s line xs e c body other xs' body' other' is p q r =
    rw (p, q, r) (sym (ap stmt_view is ∙ view_For line xs e c body other))

pub shown_set_block : (s : Stmt) (line : ℕ) (x : String Global) (body : Vec Stmt Global) (x' : Text) (body' : List Stmt)
    → s ≡ v.SetBlock line x body → x' ≡ string_bytes x → body' ≡ body.items
    → trees.set_block line x' (body_view body') ≡ stmt_view s
shown_set_block s line x body x' body' is p q = rw (p, q) (sym (ap stmt_view is ∙ view_SetBlock line x body))

pub shown_with : (s : Stmt) (line : ℕ) (ps : Vec Entry Global) (body : Vec Stmt Global) (ps' : List Entry)
    (body' : List Stmt)
    → s ≡ v.With line ps body → ps' ≡ ps.items → body' ≡ body.items
    → trees.with_values line (pairs_view ps') (body_view body') ≡ stmt_view s
shown_with s line ps body ps' body' is p q = rw (p, q) (sym (ap stmt_view is ∙ view_With line ps body))

pub shown_filters : (s : Stmt) (line : ℕ) (fs : Vec FilterCall Global) (body : Vec Stmt Global) (fs' : List FilterCall)
    (body' : List Stmt)
    → s ≡ v.FilterBlock line fs body → fs' ≡ fs.items → body' ≡ body.items
    → trees.filter_block line (filter_calls_view fs') (body_view body') ≡ stmt_view s
shown_filters s line fs body fs' body' is p q = rw (p, q) (sym (ap stmt_view is ∙ view_FilterBlock line fs body))
