-- WordPlaces: a word by its place in the table. Letters: a word by its first byte. Keys: what the last arm of a match tells.
pub mod Keys
pub mod WordPlaces
pub mod Letters
pub mod OneByOne
pub mod Few
