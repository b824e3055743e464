-- Errors of a source: its segments with their options, and the trees that they spell.
use Rattle.jt_inherit.proofs.Vocabulary as words
use words.{◌≡◌, ◌<◌, ◌≤◌, List, [], ◌∷◌, length, map, refl, sym, ap, ◌∙◌, chars, Some, None, arith, rules, segment_view}
use words.{HaveOptions, HasNoTree, IsFault, IsScan, IsParse, cases_lt, normalized, Held, max_source_len, cut_of}
use words.{Options, Body, body_levels, body_of, SourceTexts, IsTree, IsOnly, IsUncut, IsUnspelled, ChainError}
use Rattle.jt_parse.specs.View.{reads_of}
use Rattle.jt_parse.specs.Refusals.{IsRefusal}
use Rattle.jt_parse.specs.Names.{body_unknown}
use Rattle.jt_parse.specs.Kept.{pieces, Read}
use Rattle.jt_parse.specs.Grammar.{Spelled}
use Rattle.jt_scan.specs.Cut.{Text, IsCut}
use Rattle.jt_scan.specs.declared.error.ScanError.{ScanError}
use Rattle.jt_scan.specs.declared.segment.Segment.{Segment}
use Rattle.jt_parse.specs.declared.error.ParseError.{ParseError}
use Rattle.jt_ast.specs.declared.statement.Template.{Template}
use Rattle.jt_scan.specs.Cut as cut
use Rattle.jt_scan.specs.declared.error.ScanError.TheVariants as scan_error
use Rattle.jt_parse.specs.declared.error.ParseError.TheVariants as parse_error
use words.error

-- If each segment has the options, the segments as read are the cut with these options.
pub read_cut : (options : Options) (ss : List Segment) → HaveOptions options ss
    → reads_of ss ≡ map (λ s. (options, s)) (cut_of ss)
read_cut options [] h = refl
read_cut options (s ∷ ss) h =
    rw h.0 (ap (λ l. let r : Read = (options, segment_view s) in r ∷ l) (read_cut options ss h.1))

pub limited : (given : Text) → (max_source_len < length given → ⊥) → length given ≤ max_source_len
limited given long = search (arith, rules, cases_lt)

module _ (options : Options) (given : Text) (s : Held)
    (is : s ≡ record { text = normalized options.keep_trailing_newline given; options = options })
    (ss : List Segment) where
  its_text : s.text ≡ normalized options.keep_trailing_newline given
  its_text = rw is

  its_cut : IsCut (cut_of ss) (chars s.text)
      → IsCut (cut_of ss) (chars (normalized options.keep_trailing_newline given))
  its_cut c = rw (← its_text) c

  its_reads : HaveOptions s.options ss → reads_of ss ≡ map (λ s. (options, s)) (cut_of ss)
  its_reads h = read_cut options ss (rw (← (ap (λ (z : Held). z.options) is)) h)

  -- The cut of a tree that the source spells is a cut of the text.
  text_cut : (b : Body) (t : IsTree options given b) → IsCut t.segments (chars s.text)
  text_cut b t = rw its_text t.cut

  read_so : (b : Body) (t : IsTree options given b) → cut_of ss ≡ t.segments → HaveOptions s.options ss
      → Spelled b (pieces (reads_of ss))
  read_so b t e h = rw (its_reads h ∙ ap (map (λ q. (options, q))) e) t.spelled

  module _ (h : HaveOptions s.options ss)
      (once : (qs : List cut.Segment) → IsCut qs (chars s.text) → cut_of ss ≡ qs) where
    -- If the segments spell one tree only, the source spells no other.
    pub only_tree : (t : Template)
        → ((d : Body) → Spelled d (pieces (reads_of ss)) → body_levels d ≤ 100 → body_unknown d ≡ None → body_of t ≡ d)
        → (b : Body) → IsTree options given b → b ≡ body_of t
    only_tree t one b i = sym (one b (read_so b i (once i.segments (text_cut b i)) h) i.levels i.known)

    -- If the segments spell no tree, the source spells none.
    pub no_tree : (e : ParseError) → (e ≡ parse_error.NoMemory → ⊥)
        → ((d : Body) → Spelled d (pieces (reads_of ss)) → body_levels d ≤ 100 → body_unknown d ≡ None
        → e ≡ parse_error.NoMemory) → HasNoTree options given
    no_tree e f none = λ b i. f (none b (read_so b i (once i.segments (text_cut b i)) h) i.levels i.known)

  pub tree_found : (t : Template) → length given ≤ max_source_len → IsCut (cut_of ss) (chars s.text)
      → HaveOptions s.options ss → Spelled (body_of t) (pieces (reads_of ss)) × (body_levels (body_of t) ≤ 100)
      → body_unknown (body_of t) ≡ None → IsTree options given (body_of t)
  tree_found t le c h p k = search (arith, rules, limited, its_cut, its_reads)

  refused_as : (e : ParseError) → (e ≡ parse_error.NoMemory → ⊥) → IsCut (cut_of ss) (chars s.text)
      → HaveOptions s.options ss → IsRefusal e (pieces (reads_of ss)) → IsUnspelled e options given
  refused_as e f c h r = search (arith, rules, its_cut, its_reads)

  pub unspelled : (name : Text) (e : ParseError) (x : ChainError) → IsCut (cut_of ss) (chars s.text)
      → HaveOptions s.options ss → IsRefusal e (pieces (reads_of ss))
      → ((e ≡ parse_error.NoMemory → ⊥) → HasNoTree options given)
      → IsParse name e x → IsFault x name options given
  unspelled name e (error.Parse n f) c h r none p =
      (p.0, rw p.1 (refused_as e p.2 c h r), none p.2)
  unspelled name e error.NoMemory c h r none p = tt
  unspelled name e x c h r none p = absurd p

-- ---- a source that cannot be cut

-- An error of the scanner, with the template's name.
pub unscanned : (options : Options) (given name : Text) (e : ScanError) (x : ChainError)
    → ((e ≡ scan_error.NoMemory → ⊥) → IsUncut e options given × HasNoTree options given) → IsScan name e x
    → IsFault x name options given
unscanned options given name e a4 r p = search (arith, rules)

pub too_long : (options : Options) (given : Text) (e : ScanError)
    → (max_source_len < length given → e ≡ scan_error.SourceTooLong 1)
    → (length given ≤ max_source_len → e ≡ scan_error.NoMemory) → (e ≡ scan_error.NoMemory → ⊥)
    → IsUncut e options given × HasNoTree options given
too_long options given e long short f = search (arith, rules, cases_lt)

-- ---- the template of a name

-- The template is the only one of its name if its source spells no other tree.
pub only_read : (given : SourceTexts) (options : Options) (name text : Text) (b : Body) → given name ≡ Some text
    → ((d : Body) → IsTree options text d → d ≡ b) → IsOnly given options (record { name = name; body = b })
only_read given options name text b found one = λ d r.
    let told : Some r.source ≡ Some text = sym r.found ∙ found in
    let source : r.source ≡ text = cc in
    one d (rw (← source) r.tree)
