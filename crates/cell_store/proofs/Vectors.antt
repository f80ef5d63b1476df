-- The definitions, tried on written-out disks of one cell: 100 bytes.
use Rattle.std.proofs.Common.{◌≡◌, ℕ, Some, None, List, [], ◌∷◌, ◌++◌, set, replicate, refl, ap, get_or, arith}
use Rattle.basics.specs.Numbers.{bytes_of}
use Rattle.cell_store.specs.declared.kinds.Version.TheVariants.{One, Two}
use Rattle.cell_store.specs.Layout.{header, twin_layout}
use Rattle.cut_disk.specs.Images.{splice}
use Rattle.cell_store.specs.Twin.{is_live, counts, cell_of, cell_at}
use Rattle.cell_store.specs.Store.{fresh_cells, Fresh, twin_put, PutsAs, Put, HasHeader}

abbrev head : List ℕ
head = 0x53 ∷ 0x45 ∷ 0x43 ∷ 0x4f ∷ 0x43 ∷ 0x53 ∷ 0x54 ∷ 0x31 ∷ 1 ∷ 1 ∷ 0 ∷ 1 ∷ replicate 20 0

abbrev zeros : List ℕ
zeros = replicate 32 0

abbrev elevens : List ℕ
elevens = replicate 32 0x11

-- the bytes of a fresh store of one cell of zeros
abbrev fresh : List ℕ
fresh = head ++ (0xa7 ∷ 0 ∷ zeros) ++ (0xa7 ∷ 2 ∷ zeros)

a_header_of_one_cell : header (twin_layout One) 1 ≡ head
unfolding header bytes_of
a_header_of_one_cell = refl

a_header_of_1024_cells : header (twin_layout One) 1024 ≡ set (set head 10 4) 11 0
unfolding header bytes_of
a_header_of_1024_cells = refl

a_header_of_version_two : header (twin_layout Two) 1 ≡ set head 9 2
unfolding header bytes_of
a_header_of_version_two = refl

a_fresh_store : Fresh (twin_layout One) (zeros ∷ []) (replicate 100 0x5a) fresh
unfolding Fresh fresh_cells header bytes_of splice
a_fresh_store = refl

the_fresh_cell : cell_at fresh 0 ≡ Some zeros
unfolding cell_at cell_of counts is_live
the_fresh_cell = refl

a_put_of_elevens : Put (twin_layout One) fresh 0 elevens (head ++ (0xa7 ∷ 0 ∷ zeros) ++ (0xa7 ∷ 1 ∷ elevens))
unfolding PutsAs twin_put counts is_live splice
a_put_of_elevens = refl

the_cell_that_was_put : cell_at (head ++ (0xa7 ∷ 0 ∷ zeros) ++ (0xa7 ∷ 1 ∷ elevens)) 0 ≡ Some elevens
unfolding cell_at cell_of counts is_live
the_cell_that_was_put = refl

-- the next put goes back to the first copy
a_second_put : Put (twin_layout One) (head ++ (0xa7 ∷ 0 ∷ zeros) ++ (0xa7 ∷ 1 ∷ elevens)) 0 zeros (head ++ (0xa7 ∷ 2 ∷ zeros) ++ (0xa7 ∷ 1 ∷ elevens))
unfolding PutsAs twin_put counts is_live splice
a_second_put = refl

both_gates_closed : cell_at (set (set fresh 32 0) 66 0) 0 ≡ None
unfolding cell_at cell_of counts is_live
both_gates_closed = refl

equal_marks : cell_at (set fresh 33 2) 0 ≡ None
unfolding cell_at cell_of counts is_live
equal_marks = refl

a_mark_above_two : cell_at (set fresh 67 3) 0 ≡ None
unfolding cell_at cell_of counts is_live
a_mark_above_two = refl

the_spare_closed : cell_at (set fresh 66 0) 0 ≡ Some zeros
unfolding cell_at cell_of counts is_live
the_spare_closed = refl

no_header : HasHeader (twin_layout One) 1 (set fresh 0 0) → ⊥
unfolding header bytes_of
no_header e = let first : ◌≡◌ {A = ℕ} 0 0x53 = ap (λ l. get_or l 0 0) e in absurd (omega arith)
