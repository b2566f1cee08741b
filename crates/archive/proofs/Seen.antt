-- What facets hold for a choice: of several lists, of facets made from others, and of those that touch a table. Assumes nothing.
use Rattle.std.proofs.Common.{◌≡◌, ℕ, ◌^◌, ◌<◌, Bool, true, false, cond, ◌&&◌, List, [], ◌∷◌, ◌++◌, map, filter, sym, refl, ap, ◌∙◌, ap₂}
use mathlib.Core.List.{map-append}
use Rattle.std.specs.List.{flat_map}
use Rattle.std.proofs.lemmas.List.Elements.{filter-append}
use Rattle.std.proofs.lemmas.List.{map-id}
use Rattle.std.proofs.lemmas.Bool.{and_from, both_ways, false_from_ne_true}
use Rattle.rows.specs.declared.cells.Cells.{Cells}
use Rattle.labels.specs.Guards.{meet}
use Rattle.stores.specs.Tables.{Facet, Table, touches}
use Rattle.words.proofs.Searched.{some_choice_by}
use Rattle.archive.specs.Askings.{seen}
use Rattle.archive.specs.Rules.{touching, under, at_kept}
use Rattle.std.proofs.lemmas.List.Concat.{flat_map_single}
use Rattle.archive.proofs.Bags.{SameBag, bag_map, bag_kept_by, kept_by_kept}

module _ (c : ℕ) where
  pub seen_append : {X : Type 0} (xs ys : List (Facet X)) → seen c (xs ++ ys) ≡ seen c xs ++ seen c ys
  seen_append {X} xs ys = ap (map (λ facet. facet.held)) (filter-append (λ facet. facet.guard c) xs ys) ∙ map-append (λ (facet : Facet X). facet.held) (filter (λ facet. facet.guard c) xs) (filter (λ facet. facet.guard c) ys)

  -- of one facet: what it holds, if its guard admits the choice
  pub seen_one : {X : Type 0} (x : Facet X) → seen c (x ∷ []) ≡ cond (x.guard c) (x.held ∷ []) []
  seen_one x = elim (x.guard c) as (λ b. map (λ facet. facet.held) (cond b (x ∷ []) []) ≡ cond b (x.held ∷ []) []) [ true ↦ refl | false ↦ refl ]

  pub seen_more : {X : Type 0} (x : Facet X) (xs : List (Facet X)) → seen c (x ∷ xs) ≡ cond (x.guard c) (x.held ∷ []) [] ++ seen c xs
  seen_more x xs = seen_append (x ∷ []) xs ∙ ap (◌++ seen c xs) (seen_one x)

  -- the same facets in another order
  pub seen_bag : {X : Type 0} {xs ys : List (Facet X)} → SameBag xs ys → SameBag (seen c xs) (seen c ys)
  seen_bag bag = bag_map (λ facet. facet.held) (bag_kept_by (λ facet. facet.guard c) bag)

  -- each facet becomes several, and what they hold for the choice is made from what it holds for it
  pub seen_joined : {X Y : Type 0} (f : Facet X → List (Facet Y)) (g : X → List Y) → ((x : Facet X) → seen c (f x) ≡ cond (x.guard c) (g x.held) []) → (xs : List (Facet X)) → seen c (flat_map f xs) ≡ flat_map g (seen c xs)
  seen_joined f g each [] = refl
  seen_joined f g each (x ∷ xs) =
      seen_append (f x) (flat_map f xs)
      ∙ ap₂ ◌++◌ (each x) (seen_joined f g each xs)
      ∙ elim (x.guard c) as (λ b. cond b (g x.held) [] ++ flat_map g (seen c xs) ≡ flat_map g (cond b (x.held ∷ []) [] ++ seen c xs)) [ true ↦ refl | false ↦ refl ]
      ∙ ap (flat_map g) (sym (seen_more x xs))

  -- each facet becomes one, with a guard that says the same of the choice
  pub seen_map : {X Y : Type 0} (f : Facet X → Facet Y) (g : X → Y) → ((x : Facet X) → (f x).guard c ≡ x.guard c) → ((x : Facet X) → (f x).held ≡ g x.held) → (xs : List (Facet X)) → seen c (map f xs) ≡ map g (seen c xs)
  seen_map f g guards held xs =
      ap (seen c) (sym (flat_map_single f xs))
      ∙ seen_joined (λ x. f x ∷ []) (λ x. g x ∷ []) (λ x. seen_one (f x) ∙ ap₂ (λ b y. cond b (y ∷ []) []) (guards x) (held x)) xs
      ∙ flat_map_single g (seen c xs)

  -- cells under one guard
  pub seen_under : (guard : ℕ → Bool) (rows : List Cells) → seen c (under guard rows) ≡ cond (guard c) rows []
  seen_under guard [] = elim (guard c) as (λ b. ◌≡◌ {A = List Cells} [] (cond b [] [])) [ true ↦ refl | false ↦ refl ]
  seen_under guard (x ∷ xs) =
      seen_more (record { guard = guard; held = x }) (under guard xs)
      ∙ ap (cond (guard c) (x ∷ []) [] ++◌) (seen_under guard xs)
      ∙ elim (guard c) as (λ b. cond b (x ∷ []) [] ++ cond b xs [] ≡ cond b (x ∷ xs) []) [ true ↦ refl | false ↦ refl ]

  module _ (table : Table) (small : c < 2 ^ 64) (kept : table.keeps c ≡ true) where
    -- a guard that admits a kept choice touches the table
    pub admits_touches : (guard : ℕ → Bool) → guard c ≡ true → touches table guard ≡ true
    admits_touches guard admits = some_choice_by (meet table.keeps guard) c small (and_from (table.keeps c) (guard c) kept admits)

    -- so the facets that do not touch the table hold nothing for a kept choice
    pub seen_touching : (rows : List (Facet Cells)) → seen c (touching table rows) ≡ seen c rows
    seen_touching rows =
        ap (map (λ row. row.held))
        (kept_by_kept (λ row. row.guard c) (λ row. touches table row.guard) (λ row apart. false_from_ne_true (row.guard c) (λ admits. both_ways _ apart (admits_touches row.guard admits))) rows)

    -- rows as they show at the kept choices
    pub seen_at_kept : (rows : List (Facet Cells)) → seen c (map (at_kept table.keeps) rows) ≡ seen c rows
    seen_at_kept rows = seen_map (at_kept table.keeps) (λ cells. cells) (λ row. ap (◌&& row.guard c) kept) (λ row. refl) rows ∙ map-id (seen c rows)
