mod Kept
mod MemoLaws
mod Hashing
mod Telling
mod LeastForm
mod WorkedLimits
