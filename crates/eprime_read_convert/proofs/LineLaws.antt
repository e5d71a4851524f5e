-- The index of no lines, and that of lines with one more.
use Rattle.std.proofs.Common.{◌≡◌, refl, sym, ap, ◌∙◌, subst, Bool, true, false, ◌||◌, if◌then◌else◌, cond, List, [], ◌∷◌, ◌++◌, map, filter, reverse, Option, Some}
use Rattle.std.specs.Option.{option_map}
use Rattle.std.specs.Map.{lookup}
use Rattle.std.specs.BTreeMap.{BTreeMap, get, is_at, IsEmpty, Updates}
use Rattle.std.proofs.lemmas.List.{reverse-append}
use Rattle.ess_semantics.specs.Lists.{is_some_and}
use Rattle.ess_semantics.specs.Values.{Text}
use Rattle.ess_semantics.specs.Order.{order_text, same_text}
use Rattle.ess_semantics.specs.Names.{look, is_among}
use Rattle.ess_semantics.proofs.Orders.{text_exact, equal-of}
use Rattle.eprime_read_convert.specs.declared.lines.Line.{Line}
use Rattle.eprime_read_convert.specs.declared.lines.Known.{Known}
use Rattle.eprime_read_convert.specs.Lines.{scope_of, Indexes}

pub no_lines : (m : BTreeMap Text Known) → IsEmpty m → Indexes [] m
no_lines m e = record {
  truths = λ a. ap (λ es. option_map (λ (d : Known). d.truth) (lookup (is_at (order_text a)) es)) e;
  finds = λ a. ap (λ es. is_some_and (lookup (is_at (order_text a)) es) (λ (d : Known). d.found)) e;
}

-- The names of lines, the newest first, and those of finds.
abbrev tables_back : List Line → List (Text × Bool)
tables_back rs = map (λ l. (l.name, l.truth)) rs

abbrev finds_back : List Line → List Text
finds_back rs = map (λ l. l.name) (filter (λ l. l.found) rs)

truth_more : (l : Line) (rs : List Line) (a : Text) (d : Known) (b : Bool) (o : Option Known) → d.truth ≡ l.truth → option_map (λ d. d.truth) o ≡ look (tables_back rs) a →
    option_map (λ d. d.truth) (cond b (Some d) o) ≡ (if b then Some l.truth else look (tables_back rs) a)
truth_more l rs a d true o e h = ap Some e
truth_more l rs a d false o e h = h

find_more : (l : Line) (rs : List Line) (a : Text) (d : Known) (c b : Bool) (o : Option Known) → same_text l.name a ≡ b → d.found ≡ (c || is_among (finds_back rs) l.name) →
    is_some_and o (λ d. d.found) ≡ is_among (finds_back rs) a →
    is_some_and (cond b (Some d) o) (λ d. d.found) ≡ is_among (map (λ l. l.name) (cond c (l ∷ filter (λ l. l.found) rs) (filter (λ l. l.found) rs))) a
find_more l rs a d true true o e f h = f ∙ sym (ap (λ x. x || is_among (finds_back rs) a) e)
find_more l rs a d true false o e f h = h ∙ sym (ap (λ x. x || is_among (finds_back rs) a) e)
find_more l rs a d false true o e f h = f ∙ ap (is_among (finds_back rs)) (text_exact l.name a (equal-of (order_text l.name a) e))
find_more l rs a d false false o e f h = h

pub one_line_more : (ls new : List Line) (l : Line) (m n : BTreeMap Text Known) (k : Text) (d : Known) → new ≡ ls ++ l ∷ [] → Indexes ls m → k ≡ l.name → d.truth ≡ l.truth →
    d.found ≡ (l.found || is_among (scope_of ls).finds l.name) → Updates order_text m n k (Some d) → Indexes new n
one_line_more ls new l m n k d e x ke te fe u =
    let w : Updates order_text m n l.name (Some d) = subst (λ k. Updates order_text m n k (Some d)) ke u in
    let back : reverse new ≡ l ∷ reverse ls = ap reverse e ∙ reverse-append ls (l ∷ []) in record {
      truths = λ a.
          ap (option_map (λ (d : Known). d.truth)) (w.0 a) ∙ truth_more l (reverse ls) a d (same_text l.name a) (get order_text m a) te (x.truths a)
          ∙ sym (ap (λ rs. look (tables_back rs) a) back);
      finds = λ a.
          ap (λ o. is_some_and o (λ (d : Known). d.found)) (w.0 a) ∙ find_more l (reverse ls) a d l.found (same_text l.name a) (get order_text m a) refl fe (x.finds a)
          ∙ sym (ap (λ rs. is_among (finds_back rs) a) back);
    }
