-- How many reads a store takes, and how many of them come up to what is damaged.
use Rattle.std.specs.Prelude.{ℕ, zero, suc, ◌+◌}
use Rattle.cell_store.specs.declared.kinds.Kind.{Kind}
use Rattle.cell_store.specs.declared.kinds.Kind.TheVariants.{Twin, Log}

-- a twin store of n cells: the header and each cell; and those up to cell i
abbrev pub twin_reads : ℕ → ℕ
twin_reads n = 1 + n

abbrev pub twin_reads_to : ℕ → ℕ
twin_reads_to i = 2 + i

-- the bank that counts, up to a damage: the gates and marks of both banks, all cells, and the places up to it
abbrev pub bank_reads_to : ℕ → ℕ → ℕ
bank_reads_to n zero = 2
bank_reads_to n (suc p) = 2 + n + suc p

-- a log store of n cells: the header, both gates and marks, the cells and the 64 places; and those up to a damage
abbrev pub log_reads : ℕ → ℕ
log_reads n = 67 + n

abbrev pub log_reads_to : ℕ → ℕ → ℕ
log_reads_to n i = 1 + bank_reads_to n i

-- the same, by the kind of the store
abbrev pub reads : Kind → ℕ → ℕ
reads Twin n = twin_reads n
reads Log n = log_reads n

abbrev pub reads_to : Kind → ℕ → ℕ → ℕ
reads_to Twin n i = twin_reads_to i
reads_to Log n i = log_reads_to n i
