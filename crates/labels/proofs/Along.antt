-- Along a path: its guard, and its room. Assumes nothing.
use Rattle.std.proofs.Common.{◌≡◌, ℕ, Bool, true, ◌&&◌, ltb, List, [], ◌∷◌, ◌++◌, sym, refl, ap, ◌∙◌, ap₂}
use mathlib.Core.Bool.{and-true}
use mathlib.Core.Path.{fun_ext}
use Rattle.std.proofs.lemmas.Bool.{and_parts}
use Rattle.labels.specs.declared.literals.Literal.{Literal}
use Rattle.labels.specs.Guards.{literal_guard, meet}
use Rattle.labels.specs.Literals.{holds}
use Rattle.labels.specs.Paths.{path_holds, path_guard, all_known}
use Rattle.std.proofs.lemmas.List.Folds.{list_all-append}

-- where the labels are known, the guard of a path admits the choices at which it holds
pub path_guard_holds : (n : ℕ) (ls : List Literal) → all_known n ls ≡ true → path_guard n ls ≡ path_holds ls
path_guard_holds n ls known = fun_ext (λ c. each c ls known)
  where
    each : (c : ℕ) (ms : List Literal) → all_known n ms ≡ true → path_guard n ms c ≡ path_holds ms c
    each c [] k = refl
    each c (l ∷ ms) k =
        let parts = and_parts (ltb l.label n) (all_known n ms) k in
        ap₂ (λ a b. a && holds l c && b) parts.0 (each c ms parts.1)

-- the guard of a path with one literal more
pub guard_push : (n : ℕ) (ls : List Literal) (l : Literal) (f g : ℕ → Bool) → f ≡ path_guard n ls → g ≡ meet f (literal_guard n l) → g ≡ path_guard n (ls ++ l ∷ [])
guard_push n ls l f g before met =
    met ∙ ap (λ h. meet h (literal_guard n l)) before ∙ fun_ext (λ c. sym (list_all-append (λ m. literal_guard n m c) ls (l ∷ []) ∙ ap (λ b. path_guard n ls c && b) (and-true (literal_guard n l c))))
