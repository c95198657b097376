-- OneByOne: one record more is written after those before it.
mod OneByOne
