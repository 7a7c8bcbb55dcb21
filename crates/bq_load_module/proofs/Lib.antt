-- what an evaluation ends in, where its run is known
mod Endings
