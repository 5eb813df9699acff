-- The fields of a slot, tested one after the other. Assumes nothing.
use Prim.Native.Nat.{ℕ, ◌<◌, ◌≤◌}
use mathlib.Core.Path.{◌≡◌, refl, sym, ◌∙◌}
use mathlib.Core.Bool.{Bool, true, false}
use mathlib.Core.List.{List, [], ◌∷◌}
use borrow.Author.Tests.{le-leb, lt-leb}
use Rattle.octets.proofs.Bools.{all-last, all-on, all-off}
use Rattle.octets.specs.Search.{all, all_of}
use Rattle.contact_table.specs.Table.{mark, doubt, id_size, address_count}
use Rattle.limits.specs.Limits.{most_id, most_addresses, bucket_size}
use Rattle.contact_form.specs.Form.{address_fits, fields_fit}

module _ (s : List ℕ) where
  pub rank-over : bucket_size < mark s → false ≡ fields_fit s
  unfolding fields_fit
  rank-over h = sym (all-off _ _ (lt-leb (mark s) bucket_size h))

  module _ (h0 : mark s ≤ bucket_size) where
    pub doubt-over : 1 < doubt s → false ≡ fields_fit s
    unfolding fields_fit
    doubt-over h = sym (all-on _ _ (le-leb (mark s) bucket_size h0) ∙ all-off _ _ (lt-leb (doubt s) 1 h))

    module _ (h1 : doubt s ≤ 1) where
      pub id-empty : id_size s < 1 → false ≡ fields_fit s
      unfolding fields_fit
      id-empty h = sym (all-on _ _ (le-leb (mark s) bucket_size h0) ∙ all-on _ _ (le-leb (doubt s) 1 h1) ∙ all-off _ _ (lt-leb 1 (id_size s) h))

      module _ (h2 : 1 ≤ id_size s) where
        pub id-long : most_id < id_size s → false ≡ fields_fit s
        unfolding fields_fit
        id-long h =
            sym (all-on _ _ (le-leb (mark s) bucket_size h0) ∙ all-on _ _ (le-leb (doubt s) 1 h1) ∙ all-on _ _ (le-leb 1 (id_size s) h2)
            ∙ all-off _ _ (lt-leb (id_size s) most_id h))

        module _ (h3 : id_size s ≤ most_id) where
          pub many-addresses : most_addresses < address_count s → false ≡ fields_fit s
          unfolding fields_fit
          many-addresses h =
              sym (all-on _ _ (le-leb (mark s) bucket_size h0) ∙ all-on _ _ (le-leb (doubt s) 1 h1) ∙ all-on _ _ (le-leb 1 (id_size s) h2)
              ∙ all-on _ _ (le-leb (id_size s) most_id h3) ∙ all-off _ _ (lt-leb (address_count s) most_addresses h))

          pub addresses-left : address_count s ≤ most_addresses → all (address_count s) (address_fits s) ≡ fields_fit s
          unfolding fields_fit
          addresses-left h =
              sym (all-on _ _ (le-leb (mark s) bucket_size h0) ∙ all-on _ _ (le-leb (doubt s) 1 h1) ∙ all-on _ _ (le-leb 1 (id_size s) h2)
              ∙ all-on _ _ (le-leb (id_size s) most_id h3) ∙ all-on _ _ (le-leb (address_count s) most_addresses h) ∙ all-last (all (address_count s) (address_fits s)))
