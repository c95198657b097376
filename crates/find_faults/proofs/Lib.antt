-- The entries that `find` leaves show the faults. Theorems has what holds of each fault of a tree's text. RowsForWalk: what the rows that
-- were read give the walk; Fitting: faults fit their text; EntriesRead: entries are written and read; RecordsRead: they are read as records;
-- Found: the whole.
pub mod Theorems
pub mod RowsForWalk
pub mod Fitting
pub mod EntriesRead
pub mod RecordsRead
pub mod Found
