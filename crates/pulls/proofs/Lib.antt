-- That an accepted base is answered as the rules say.
mod Keeping
mod Drawing
mod Pulling
mod Clearing
