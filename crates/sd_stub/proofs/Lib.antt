mod Replies
mod Hearing
mod Passing
mod Standing
mod LinkEnds
mod Rounds
mod Told
